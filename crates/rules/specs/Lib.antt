-- Document 01 as definitions: nothing else has to be believed. Each file renders one part of it and opens with that part's words.
pub mod Outcome
pub mod Points
pub mod Order
pub mod Edges
pub mod Labels
pub mod Search
pub mod Walk
pub mod Bits
pub mod Sheet
pub mod Refusals
pub mod Entries
pub mod Lines
pub mod Program
pub mod Examples
