-- How the code finds where a step moves to: by the least key of the points with an edge, below a limit.
use Rattle.std.specs.Prelude.{ℕ, zero, suc, min, Bool, cond}

-- the least key of the ids below n that pass, where it is below the limit; the limit where there is none
unfoldable pub least : (ℕ → ℕ) → (ℕ → Bool) → ℕ → ℕ → ℕ
least key p limit zero = limit
least key p limit (suc n) = cond (p n) (min (key n) (least key p limit n)) (least key p limit n)
