-- Laws that the proofs of `table` share.
pub mod Halving
pub mod Filling
pub mod Mapped
pub mod Least
pub mod Settled
pub mod Starting
pub mod Turns
pub mod Whole
