pub mod Fates
pub mod FirstWays
