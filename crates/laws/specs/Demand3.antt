-- What demand 3 says, of searches over ids below n, their order `key`, the edges of one threshold and the ids that are seen at first.
use Rattle.std.specs.Prelude.{ℕ, ◌≤◌, ◌<◌, ◌≡◌, Bool, true, List, ◌++◌, length, get_or}
use Rattle.rules.specs.Order.{Within, firsts, Nearest}
use Rattle.rules.specs.Search.{State, search, answer}

module _ (n : ℕ) (key : ℕ → ℕ) (edge : ℕ → ℕ → Bool) (given : ℕ → Bool) where
  abbrev pub after : ℕ → State
  after width = search n key edge width given

  abbrev pub found : ℕ → ℕ → ℕ
  found width k = length (answer n key k (after width))

  abbrev pub place : ℕ → ℕ → ℕ → ℕ
  place width k j = get_or (answer n key k (after width)) j 0

  -- of two widths, the narrower one's trail is the beginning of the wider one's; the wider sees what the narrower sees, finds at least as many, and at
  -- each place that the narrower filled has the same id or an earlier one
  pub record Wider (narrow wide k : ℕ) : Type 0 where
    pub rest : List ℕ
    pub trail : (after wide).trail ≡ (after narrow).trail ++ rest
    pub seen : Within n (after narrow).seen (after wide).seen
    pub more : found narrow k ≤ found wide k
    pub places : (j : ℕ) → j < found narrow k → key (place wide k j) ≤ key (place narrow k j)

  -- the answers are exactly the first k of all ids in order, or all
  pub record Exact (width k : ℕ) : Type 0 where
    pub all_seen : (v : ℕ) → v < n → (after width).seen v ≡ true
    pub answers : answer n key k (after width) ≡ firsts key n k (λ y. true)
    pub nearest : Nearest key n k (λ y. true) (answer n key k (after width))
