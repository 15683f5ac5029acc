pub mod Digits
pub mod Ends
pub mod Lengths
pub mod Puts
pub mod Runs
pub mod Sinks
