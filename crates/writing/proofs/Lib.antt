pub mod Writes
pub mod Written
