-- That a search and a walk end, and what their counts then are.
use Rattle.std.specs.Prelude.{ℕ, ◌≤◌, ◌<◌, min, ◌≡◌, Bool, true, length}
use Rattle.std.proofs.Math.Option.{none}
use Rattle.rules.specs.Order.{count, on}
use Rattle.rules.specs.Search.{State, next, answer}
use Rattle.rules.specs.Walk.{Walk, step_to}

-- a search has come to a real stop: no step is left, its trail has different ids of the set, all seen, and its counts are as document 01 says
pub record Finished (n : ℕ) (key : ℕ → ℕ) (width k : ℕ) (s : State) : Type 0 where
  pub stop : next n key width s ≡ none
  pub on-trail : (y : ℕ) → on s.trail y ≡ true → (y < n) × (s.seen y ≡ true)
  pub different : count n (on s.trail) ≡ length s.trail
  pub walked-seen : length s.trail ≤ count n s.seen
  pub seen-n : count n s.seen ≤ n
  pub found : length (answer n key k s) ≡ min k (count n s.seen)

-- a walk has come to its end, at an id of the set, in at most n - 1 moves
pub record Stopped (n : ℕ) (D : ℕ → ℕ) (edge : ℕ → ℕ → Bool) (w : Walk) : Type 0 where
  pub within : w.current < n
  pub stopped : step_to n D edge w.current ≡ none
  pub short : w.moves < n
