-- What the code of `space` speaks of: an answer in document 01's terms, and the blocks on the way to D.
pub mod Pairs
pub mod Told
