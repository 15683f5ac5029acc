-- Laws that the proofs of `space` share, what its answers say, and what the coordinates of a set that is not refused are.
pub mod Sums
pub mod Measured
pub mod Told
pub mod Same
