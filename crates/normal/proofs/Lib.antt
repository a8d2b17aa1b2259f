pub mod Words
pub mod Numbers
pub mod Reading
pub mod Rights
pub mod Lefts
pub mod Turns
pub mod Whole
