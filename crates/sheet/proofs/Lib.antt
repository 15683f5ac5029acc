-- The laws that the functions' proofs cite.
pub mod Three
pub mod Signs
pub mod Filled
pub mod Entered
pub mod Refusing
pub mod Reading
pub mod Putting
pub mod Pens
pub mod Asking
pub mod Whole
pub mod Bytewise
pub mod Told
pub mod Trips
