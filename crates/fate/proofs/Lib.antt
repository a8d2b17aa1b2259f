pub mod Cuts
pub mod Fates
pub mod Rooted
pub mod FirstWays
