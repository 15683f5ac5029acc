pub mod Placing
pub mod Sinks
pub mod TwoSinks
