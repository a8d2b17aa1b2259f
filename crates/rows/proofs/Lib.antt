pub mod Changes
pub mod Rows
