pub mod Sets
pub mod Older
pub mod Risk
pub mod Stale
pub mod Descent
pub mod Walking
pub mod Tracks
pub mod Walked
