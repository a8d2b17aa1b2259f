pub mod Spots
pub mod Signs
pub mod Shapes
