pub mod Digits
pub mod Signs
pub mod Writing
pub mod Scanning
pub mod Reading
