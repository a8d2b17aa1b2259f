pub mod Asking
pub mod Saids
