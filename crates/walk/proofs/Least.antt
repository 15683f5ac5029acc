-- The least key below a limit: one more id, and where a step moves to by it. Assumes nothing.
use Prim.Native.Nat.{ℕ, zero, suc, ◌+◌, ◌*◌, ◌/◌, ◌%◌, ◌≤◌, ◌<◌, min}
use native.Mathlib.Nat.{lt_irrefl}
use native.Mathlib.Numerals.{add-one}
use native.Mathlib.Omega.{arith}
use mathlib.Core.Path.{◌≡◌, refl, ap, ◌∙◌}
use mathlib.Core.Logic.{⊎_elim}
use mathlib.Core.Bool.{Bool, true, false, cond}
use mathlib.Core.Option.{Option, none, some}
use lib.Dec.{ltb}
use borrow.Author.Tests.{lt-ltb, le-ltb, ltb-true, ltb-false}
use Rattle.rules.specs.Order.{pick, first, keyed}
use Rattle.rules.specs.Walk.{step_to}
use Rattle.laws.proofs.Order.{first_some, first_cases}
use Rattle.walk.specs.Least.{least}

-- ---- the least key

module _ (key : ℕ → ℕ) (p : ℕ → Bool) (limit : ℕ) where
  pub least-none_yet : least key p limit 0 ≡ limit
  unfolding least
  least-none_yet = refl

  pub least_more : (i : ℕ) {best : ℕ} → best ≡ least key p limit i → cond (p i) (min (key i) best) best ≡ least key p limit (i + 1)
  unfolding least
  least_more i e = rw (add-one, e)

  -- by the first id that passes
  abbrev capped : Option ℕ → ℕ
  capped none = limit
  capped (some x) = min (key x) limit

  one_more : (b : Bool) (n : ℕ) (r : Option ℕ) → cond b (min (key n) (capped r)) (capped r) ≡ capped (pick key b n r)
  unfolding pick
  one_more false n r = refl
  one_more true n none = refl
  one_more true n (some y) = by (ltb (key n) (key y)) refl
    where
      by : (t : Bool) → ltb (key n) (key y) ≡ t → min (key n) (min (key y) limit) ≡ capped (cond t (some n) (some y))
      by true e = omega (arith, ltb-true (key n) (key y) e)
      by false e = omega (arith, ltb-false (key n) (key y) e)

  least_first : (n : ℕ) → least key p limit n ≡ capped (first key n p)
  unfolding least first
  least_first zero = refl
  least_first (suc n) = ap (λ (l : ℕ). cond (p n) (min (key n) l) l) (least_first n) ∙ one_more (p n) n (first key n p)

-- ---- where a step moves to

module _ (n : ℕ) (D : ℕ → ℕ) (edge : ℕ → ℕ → Bool) (u : ℕ) where
  -- the least key of the ids with an edge from u that are nearer than u
  abbrev step_key : ℕ
  step_key = least (keyed D) (edge u) (D u * 128) n

  step_none : first (keyed D) n (edge u) ≡ none → step_to n D edge u ≡ none
  unfolding step_to
  step_none f = rw (f, step_to)

  step_some : (x : ℕ) → first (keyed D) n (edge u) ≡ some x → step_to n D edge u ≡ cond (ltb (D x) (D u)) (some x) none
  unfolding step_to
  step_some x f = rw (f, step_to)

  key_none : first (keyed D) n (edge u) ≡ none → step_key ≡ D u * 128
  key_none f = least_first (keyed D) (edge u) (D u * 128) n ∙ ap (capped (keyed D) (edge u) (D u * 128)) f

  key_some : (x : ℕ) → first (keyed D) n (edge u) ≡ some x → (x < n) × (step_key ≡ min (D x * 128 + x) (D u * 128))
  unfolding keyed
  key_some x f = (
    (first_some (keyed D) n (edge u) f).0,
    least_first (keyed D) (edge u) (D u * 128) n ∙ ap (capped (keyed D) (edge u) (D u * 128)) f,
  )

  pub key_stays : n ≤ 128 → D u * 128 ≤ step_key → step_to n D edge u ≡ none
  key_stays few h = ⊎_elim step_none (λ f. stays f.0 f.1) (first_cases (keyed D) n (edge u))
    where
      stays : (x : ℕ) → first (keyed D) n (edge u) ≡ some x → step_to n D edge u ≡ none
      stays x f = let k = key_some x f in step_some x f ∙ rw (le-ltb (D x) (D u) (omega arith))

  -- the least key is that of the id that the step moves to
  abbrev Found : ℕ → Type 0
  Found id = (step_to n D edge u ≡ some id) × (id < n) × (step_key / 128 ≡ D id)

  pub key_moves : n ≤ 128 → step_key < D u * 128 → Found (step_key % 128)
  key_moves few h =
      ⊎_elim
      (λ f. absurd (lt_irrefl (D u * 128) (omega (arith, key_none f))))
      (λ f. moves f.0 f.1)
      (first_cases (keyed D) n (edge u))
    where
      moves : (x : ℕ) → first (keyed D) n (edge u) ≡ some x → Found (step_key % 128)
      moves x f =
          let k = key_some x f in
          let id : step_key % 128 ≡ x = omega arith in
          rw id (step_some x f ∙ rw (lt-ltb (D x) (D u) (omega arith)), k.0, omega arith)
