pub mod Crossing
pub mod Equivalences
pub mod Taking
pub mod Running
pub mod Ending
pub mod Products
pub mod Zones
pub mod Rows
