-- The list of the ids that may not be seen yet, which makes following a row short: only their cells are read.
use Rattle.std.specs.Prelude.{ℕ, ◌+◌, ◌≤◌, ◌<◌, ◌≡◌, cond, List, length, get_or, set}
use Rattle.search.specs.declared.see.Mark.{Mark}
use Rattle.search.specs.declared.see.Mark.TheVariants.{Unseen, Waiting}
use Rattle.search.specs.Line.{sees}

-- the first n cells are the ids in order
pub record Numbered (n : ℕ) (rest : List ℕ) : Type 0 where
  pub size : length rest ≡ 128
  pub each : (j : ℕ) → j < n → get_or rest j 0 ≡ j

-- the first `left` cells are ids below n, and every id below n that is not seen is one of them
pub record Rest (n : ℕ) (marks : List Mark) (rest : List ℕ) (left : ℕ) : Type 0 where
  pub size : length rest ≡ 128
  pub few : left ≤ 128
  pub below : (j : ℕ) → j < left → get_or rest j 0 < n
  pub listed : (y : ℕ) → y < n → get_or marks y Unseen ≡ Unseen → ∥ ((j : ℕ) × (j < left) × (get_or rest j 0 ≡ y)) ∥₁

-- the marks after an id was reached: it waits now if it was not seen
abbrev pub reached : ℕ → List Mark → List Mark
reached id marks = cond (sees marks id) marks (set marks id Waiting)

-- the id at place i of the list was reached and left the list, where the last one took its place
pub record Reached (marks : List Mark) (rest : List ℕ) (i left : ℕ) (marks' : List Mark) (rest' : List ℕ) (left' : ℕ) : Type 0 where
  pub mark : marks' ≡ reached (get_or rest i 0) marks
  pub less : left ≡ left' + 1
  pub moved : rest' ≡ set rest i (get_or rest left' 0)
