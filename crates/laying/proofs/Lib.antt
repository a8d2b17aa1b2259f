pub mod Linked
pub mod Lines
pub mod Leaves
pub mod Laying
pub mod Stepped
pub mod Whole
