pub mod Places
pub mod Shape
pub mod Triples
