pub mod Newest
pub mod Calls
