-- What is known of what is lent, by its lengths, where it is not refused. The code of the search and of the walk relies on it.
use Rattle.std.specs.Prelude.{ℕ, ◌*◌, ◌≤◌, ◌<◌, ◌≡◌}
use Rattle.rules.specs.Refusals.{set_refusal}

-- a set, and a query of as many coordinates as its points
pub record Askable (n d vectors query : ℕ) : Type 0 where
  pub set_given : set_refusal n d vectors ≡ 0
  pub few-points : n ≤ 128
  pub query-is : query ≡ d

-- these, the set's table and an id to start from
pub record StartOk (n d vectors table query start : ℕ) : Type 0 where
  pub asked : Askable n d vectors query
  pub table_is : table ≡ n * n
  pub start_in : start < n
