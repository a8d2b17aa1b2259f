pub mod Tallies
pub mod Frames
