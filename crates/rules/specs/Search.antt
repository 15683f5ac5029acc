-- Document 01, "Search": "At first only the start is seen. Let x be the first, in order from the query, of the seen points not yet on the trail. Stop
-- if there is none, or if at least `width` seen points come before x. Otherwise append x to the trail; all points with an edge from x become seen.
-- Answer: the first k seen points in order, or all seen if fewer."
-- Over the ids below n, their order by `key` and the edges of one threshold. Which ids are seen at first is left open.
use Rattle.std.specs.Prelude.{ℕ, zero, suc, ◌≡◌, Bool, cond, not, ◌&&◌, ◌||◌, List, [], ◌∷◌, ◌++◌, ltb, leb}
use Rattle.std.proofs.Math.Option.{Option, none, some}
use Rattle.rules.specs.Order.{count, on, Within, first, firsts}

pub record State : Type 0 where
  pub seen : ℕ → Bool
  pub trail : List ℕ

-- at first only the given ids are seen
unfoldable pub start : (ℕ → Bool) → State
start given = record { seen = given; trail = [] }

-- the seen ids that are not yet on the trail
unfoldable pub waiting : State → ℕ → Bool
waiting s y = s.seen y && not (on s.trail y)

-- x goes on the trail, and all ids with an edge from x become seen
unfoldable pub visit : (ℕ → ℕ → Bool) → State → ℕ → State
visit edge s x = record { seen = λ y. s.seen y || edge x y; trail = s.trail ++ (x ∷ []) }

module _ (n : ℕ) (key : ℕ → ℕ) where
  -- how many seen ids come before x
  unfoldable pub before : (ℕ → Bool) → ℕ → ℕ
  before seen x = count n (λ y. seen y && ltb (key y) (key x))

  -- x is the first, in order, of the ids that wait. Nothing is chosen if there is none, or if at least `width` seen ids come before x.
  unfoldable pub choice : ℕ → (ℕ → Bool) → (ℕ → Bool) → Option ℕ
  choice width seen waits = elim (first key n waits) [ none ↦ none | some x ↦ cond (leb width (before seen x)) none (some x) ]

  -- the id that the next step visits, the first of the seen ids not yet on the trail, or `none` for a stop
  unfoldable pub next : ℕ → State → Option ℕ
  next width s = choice width s.seen (waiting s)

  -- the first k seen ids in order, or all seen if fewer
  unfoldable pub answer : ℕ → State → List ℕ
  answer k s = firsts key n k s.seen

module _ (n : ℕ) (key : ℕ → ℕ) (edge : ℕ → ℕ → Bool) (width : ℕ) where
  -- visits up to the stop, at most as many as the fuel
  unfoldable pub run : ℕ → State → State
  run zero s = s
  run (suc fuel) s = elim (next n key width s) [ none ↦ s | some x ↦ run fuel (visit edge s x) ]

  -- the whole search: each visit puts one more id on the trail, so that n are enough
  unfoldable pub search : (ℕ → Bool) → State
  search given = run n (start given)

-- t goes on from s: its trail begins with that of s, and the ids seen in s are seen in t
abbrev pub GoesOn : ℕ → State → State → Type 0
GoesOn n s t = (rest : List ℕ) × (t.trail ≡ s.trail ++ rest) × Within n s.seen t.seen
