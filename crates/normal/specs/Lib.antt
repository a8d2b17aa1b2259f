pub mod Prefix
pub mod Held
