-- What the builder keeps while it works.
pub mod Kept
pub mod Rows
