pub mod Checks
pub mod Asking
pub mod Saids
