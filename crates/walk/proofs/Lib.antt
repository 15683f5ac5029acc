-- Laws that the proofs of the walk share, and what holds of its answers.
pub mod Least
pub mod Standing
pub mod Taken
pub mod Steps
pub mod Way
pub mod Told
pub mod Whole
