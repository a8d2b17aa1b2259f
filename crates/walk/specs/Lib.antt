pub mod Walks
pub mod Tracks
