pub mod Rects
pub mod Bounding
