pub mod Line
pub mod Rest
pub mod Seen
pub mod Answer
