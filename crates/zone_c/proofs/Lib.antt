pub mod Lent
pub mod Settled
pub mod Apart
