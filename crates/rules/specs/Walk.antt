-- Document 01, "Greedy walk": "The state is a walk record that the caller keeps and each step changes: a current id and a number of moves. A step
-- finds the first, in order from the query, of the points with an edge from the current one. If its D is strictly smaller than the current point's,
-- the record moves there, moves grows by 1 and the answer is “moved”. Otherwise, or if there is no such point, the record stays and the answer is
-- “at end”. The whole walk starts at a given id with 0 moves, steps to the end, and returns the last id, its D and the moves, at most n - 1."
-- Over the ids below n, their distances D from the query and the edges of one threshold.
use Rattle.std.specs.Prelude.{ℕ, zero, suc, ◌<◌, ◌≤◌, ◌≡◌, Bool, true, false, cond, ltb}
use Rattle.std.proofs.Math.Option.{Option, none, some}
use Rattle.rules.specs.Order.{first, keyed}

pub record Walk : Type 0 where
  pub current : ℕ
  pub moves : ℕ

-- a step's answer
pub data Step : Type 0 where
  moved : Step
  at_end : Step

-- whether a step is due to move, its answer and the record after it, by where it moves to
unfoldable pub due : Option ℕ → Bool
due none = false
due (some x) = true

unfoldable pub stepped : Option ℕ → Step
stepped none = at_end
stepped (some x) = moved

unfoldable pub step_from : Walk → Option ℕ → Walk
step_from w none = w
step_from w (some x) = record { current = x; moves = suc w.moves }

module _ (n : ℕ) (D : ℕ → ℕ) (edge : ℕ → ℕ → Bool) where
  -- where a step from u moves to: the first, in order, of the ids with an edge from u, if it is strictly nearer to the query
  unfoldable pub step_to : ℕ → Option ℕ
  step_to u = elim (first (keyed D) n (edge u)) [ none ↦ none | some x ↦ cond (ltb (D x) (D u)) (some x) none ]

  -- steps to the end, at most as many as the fuel
  unfoldable pub walk : ℕ → Walk → Walk
  walk zero w = w
  walk (suc fuel) w = elim (step_to w.current) [ none ↦ w | some x ↦ walk fuel (step_from w (some x)) ]

  -- the whole walk: each move is to a smaller D, so that n are enough
  unfoldable pub walk_from : ℕ → Walk
  walk_from start = walk n (record { current = start; moves = 0 })

-- v is a nearest id
abbrev pub NearestId : ℕ → (ℕ → ℕ) → ℕ → Type 0
NearestId n D v = (v < n) × ((y : ℕ) → y < n → D v ≤ D y)

-- a walk ends at an id that is as near as v, in at most n - 1 moves
pub record Finds (n : ℕ) (D : ℕ → ℕ) (v : ℕ) (w : Walk) : Type 0 where
  pub within : w.current < n
  pub nearest : D w.current ≡ D v
  pub short : w.moves < n
