-- What the contracts of `sheet` cite besides the definitions of `rules`.
pub mod Answers
pub mod Put
pub mod Pen
pub mod AsRead
pub mod Past
