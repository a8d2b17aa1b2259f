pub mod Walks
pub mod Lining
