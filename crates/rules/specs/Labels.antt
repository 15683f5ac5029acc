-- Document 01, "Edges and labels": "A direct edge has label 0. For another edge take, among the points w whose edge from u is direct and whose D(u,w)
-- is less than D(u,v), one with the least distance to v. Its label is 16 times the difference of two roots, that of D(u,v) less that of D(w,v),
-- rounded down to a whole number. .. In whole numbers, with A = 256 × D(u,v) and B = 256 × D(w,v): a whole number t from 0 up does not exceed the
-- exact value exactly if A is at least B + t × t and the square of (A - B - t × t) is at least 4 × t × t × B. The label is the largest such t.
-- The table has n × n cells of 16 bits, row u, column v. A cell on the diagonal is 65,535. At threshold m there is an edge from u to another id v
-- exactly if the cell is at most m."
use Rattle.std.specs.Prelude.{ℕ, zero, suc, ◌+◌, ◌-◌, ◌*◌, ◌/◌, ◌%◌, Bool, true, false, cond, not, ◌&&◌, List, [], ◌∷◌, ltb, leb, eqb, get_or}
use Rattle.std.proofs.Math.Option.{none, some}
use Rattle.rules.specs.Order.{first}
use Rattle.rules.specs.Edges.{direct}

-- the root of c does not exceed the root of a less the root of b
unfoldable pub reaches : ℕ → ℕ → ℕ → Bool
reaches a b c = leb (b + c) a && leb (4 * c * b) ((a - b - c) * (a - b - c))

-- the whole number t does not exceed 16 times the difference of the roots of D(u,v) and D(w,v)
unfoldable pub not_above : ℕ → ℕ → ℕ → Bool
not_above duv dwv t = reaches (256 * duv) (256 * dwv) (t * t)

-- the largest number from 0 to the given one that passes a test, or 0 where none does
unfoldable pub largest : (ℕ → Bool) → ℕ → ℕ
largest p zero = 0
largest p (suc k) = elim (p (suc k)) [ true ↦ suc k | false ↦ largest p k ]

-- the label by D(u,v) and D(w,v). No D of document 01 has a t above 32,640, so the search from 32,767 down leaves none out (`laws`).
unfoldable pub label_of : ℕ → ℕ → ℕ
label_of duv dwv = largest (not_above duv dwv) 32767

-- the list of f 0, f 1, .. , f (k - 1)
unfoldable pub tabulate : {A : Type 0} → ℕ → (ℕ → A) → List A
tabulate zero f = []
tabulate (suc k) f = f 0 ∷ tabulate k (λ i. f (suc i))

module _ (δ : ℕ → ℕ → ℕ) (n : ℕ) where
  -- the edge from u to another id w is direct, and D(u,w) is less than D(u,v)
  unfoldable pub leads : ℕ → ℕ → ℕ → Bool
  leads u v w = not (eqb u w) && (direct δ n u w && ltb (δ u w) (δ u v))

  -- the label of an edge that is not direct, by a w that leads and has the least distance to v
  unfoldable pub label : ℕ → ℕ → ℕ
  label u v = elim (first (λ w. δ w v) n (leads u v)) [ none ↦ 0 | some w ↦ label_of (δ u v) (δ w v) ]

  -- the table's cell in row u and column v
  unfoldable pub cell : ℕ → ℕ → ℕ
  cell u v = cond (eqb u v) 65535 (cond (direct δ n u v) 0 (label u v))

  -- the table, row after row
  unfoldable pub table_of : List ℕ
  table_of = tabulate (n * n) (λ i. cell (i / n) (i % n))

-- at threshold m a table of n × n cells has an edge from u to another id v
unfoldable pub edge_in : List ℕ → ℕ → ℕ → ℕ → ℕ → Bool
edge_in table n m u v = not (eqb u v) && leb (get_or table (u * n + v) 0) m
