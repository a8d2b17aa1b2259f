pub mod Sets
pub mod EachOnce
pub mod Possible
pub mod Rewriting
pub mod Promises
