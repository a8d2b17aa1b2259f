pub mod Filled
pub mod Patches
pub mod Traces
