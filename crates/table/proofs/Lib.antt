pub mod Rows
pub mod Checks
pub mod Tally
