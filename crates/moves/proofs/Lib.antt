pub mod Moving
pub mod Parts
