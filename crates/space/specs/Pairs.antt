-- D is summed in blocks of coordinates: what a block has to say of its sum.
use Rattle.std.specs.Prelude.{ℕ, ◌*◌, ◌≤◌, ◌≡◌, List, ℤ, take, drop}
use Rattle.rules.specs.Points.{dist}

-- r is D of the k pairs of coordinates from place i on, and so small that no sum of 64 wraps
pub record Pairs (a b : List ℤ) (i k r : ℕ) : Type 0 where
  pub is : r ≡ dist (take k (drop i a)) (take k (drop i b))
  pub small : r ≤ 65025 * k
