pub mod Ways
pub mod Runs
pub mod Measures
