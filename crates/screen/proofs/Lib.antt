pub mod Places
pub mod Triples
pub mod Frames
pub mod Calls
