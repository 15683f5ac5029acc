-- What the entries of the walk answer, what their code speaks of on its way, and what holds of a whole walk.
pub mod Answers
pub mod Asked
pub mod Least
pub mod Whole
