-- The minutes, demand 3: "Take two searches by those rules that are not refused and differ only in width. The narrower one's trail is the beginning of
-- the wider one's. The wider finds at least as many points, and its answer at each place the narrower filled is the same point or an earlier one by
-- distance, then id. If the table is the one that document 01 gives the set, and a search's width is at least the number of points, its answers are
-- exactly the nearest points of the whole set, as many as asked or all, from every start and at every threshold."
use Rattle.std.specs.Prelude.{ℕ, ◌≤◌, ◌<◌, min, ◌≡◌, ◌⊎◌, true, List, ◌++◌, map, get_or, take}
use Rattle.rules.specs.Order.{Nearest, firsts}
use Rattle.rules.specs.Entries.{Ask, ask, farness, order_of}
use Rattle.search.specs.declared.Counts.{Counts}

-- the same ask at another width
abbrev pub widened : Ask → ℕ → Ask
widened a width = ask a.n a.d a.vectors a.table a.query a.start a.threshold width a.k

-- l is the beginning of l'
abbrev pub Begins : List ℕ → List ℕ → Type 0
Begins l l' = (rest : List ℕ) × (l' ≡ l ++ rest)

-- one answer is the same point as another or an earlier one by distance, then id
abbrev pub SameOrEarlier : ℕ → ℕ → ℕ → ℕ → Type 0
SameOrEarlier distance id distance' id' = (distance < distance') ⊎ ((distance ≡ distance') × (id ≤ id'))

-- of what a narrower and a wider search return and write
pub record Wider (narrow wide : Counts) (ids distances trail ids' distances' trail' : List ℕ) : Type 0 where
  pub trail_begins : Begins (take narrow.walked trail) (take wide.walked trail')
  pub at-least-as-many : narrow.found ≤ wide.found
  pub same_or_earlier : (j : ℕ) → j < narrow.found → SameOrEarlier (get_or distances' j 0) (get_or ids' j 0) (get_or distances j 0) (get_or ids j 0)

-- of what a search at full width on the set's own table returns and writes: as many as asked or all, and exactly the nearest points of the whole set,
-- in order, with their squared distances
pub record Exact (a : Ask) (counts : Counts) (ids distances : List ℕ) : Type 0 where
  pub many : counts.found ≡ min a.k a.n
  pub nearest : Nearest (order_of a) a.n a.k (λ y. true) (take counts.found ids)
  pub the_first : take counts.found ids ≡ firsts (order_of a) a.n a.k (λ y. true)
  pub their_distances : take counts.found distances ≡ map (farness a) (take counts.found ids)
