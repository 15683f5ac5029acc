-- The distances that the builder keeps: D of each two ids, summed once, at 128 × u + v.
use Rattle.std.specs.Prelude.{ℕ, ◌+◌, ◌*◌, ◌≤◌, ◌<◌, ◌≡◌, List, get_or}

-- D(u,v) as it is kept
unfoldable pub far : List ℕ → ℕ → ℕ → ℕ
far between u v = get_or between (u * 128 + v) 0

-- each two ids below k have their distance
pub record Filled (δ : ℕ → ℕ → ℕ) (k : ℕ) (between : List ℕ) : Type 0 where
  pub each : (i j : ℕ) → i < k → j < k → far between i j ≡ δ i j

-- and so have u and each id below v, both ways
pub record Begun (δ : ℕ → ℕ → ℕ) (u v : ℕ) (between : List ℕ) : Type 0 where
  pub there : (j : ℕ) → j < v → far between u j ≡ δ u j
  pub back : (j : ℕ) → j < v → far between j u ≡ δ j u

-- distances between n ids that are the same both ways and within the limit
pub record Mutual (δ : ℕ → ℕ → ℕ) (n : ℕ) : Type 0 where
  pub few : n ≤ 128
  pub symm : (u v : ℕ) → u < n → v < n → δ u v ≡ δ v u
  pub small : (u v : ℕ) → u < n → v < n → δ u v ≤ 4161600
