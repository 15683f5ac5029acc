-- What the laws say, where that takes a definition of its own.
pub mod Demand3
pub mod Ends
pub mod Line
pub mod Labelled
pub mod Lent
