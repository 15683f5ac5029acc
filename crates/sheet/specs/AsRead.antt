-- What it means that the three readers give these contents of a sheet: n, d, c and the ask count, the vectors, and each ask's four numbers and query.
use Rattle.std.specs.Prelude.{◌≡◌, List, ℕ, ◌*◌, ◌<◌, length, take, drop, ℤ}
use Rattle.rules.specs.Outcome.{gives}
use Rattle.rules.specs.Sheet.{Contents}
use Rattle.rules.specs.Refusals.{vectors_refusal}
use Rattle.rules.specs.Entries.{header_answer, vectors_after, numbers_of, ask_answer, query_after}

-- the four numbers and the query of ask i
abbrev pub numbers_at : Contents → ℕ → List ℕ
numbers_at k i = take 4 (drop (4 * i) k.numbers)

abbrev pub query_at : Contents → ℕ → List ℤ
query_at k i = take k.d (drop (i * k.d) k.queries)

pub record AsRead (ys : List ℕ) (k : Contents) : Type 0 where
  pub header : header_answer ys ≡ gives (record { n = k.n; d = k.d; c = k.c; asks = k.asks })
  pub vectors-given : (buffer : List ℤ) → length buffer ≡ k.n * k.d → vectors_refusal ys (length buffer) ≡ 0
  pub vectors : (buffer : List ℤ) → length buffer ≡ k.n * k.d → vectors_after ys buffer ≡ k.vectors
  pub numbers : (i : ℕ) → i < k.asks → (buffer : List ℤ) → length buffer ≡ k.d → ask_answer ys i buffer ≡ gives (numbers_of (numbers_at k i))
  pub queries : (i : ℕ) → i < k.asks → (buffer : List ℤ) → length buffer ≡ k.d → query_after ys i buffer ≡ query_at k i
  -- there are no more numbers and queries than the asks'
  pub numbers_are : length k.numbers ≡ 4 * k.asks
  pub queries_are : length k.queries ≡ k.asks * k.d
