pub mod Order
pub mod Along
pub mod Shapes
pub mod Round
pub mod Frames
pub mod Lines
