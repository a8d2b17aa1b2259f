pub mod Margins
pub mod Edges
