-- One visit of a search: the trail, the choice and the next visit by cases, and what a visit changes. Assumes nothing.
use Prim.Native.Nat.{ℕ, suc, ◌≤◌, ◌<◌}
use mathlib.Core.Path.{◌≡◌, refl, sym, ap, ◌∙◌}
use mathlib.Core.Logic.{◌⊎◌, inl, inr, ⊎_elim}
use mathlib.Core.Bool.{Bool, cond, ◌&&◌, true, false, not, ◌||◌}
use mathlib.Core.Option.{none, some}
use mathlib.Core.List.{List, [], ◌∷◌, ◌++◌, append_assoc, append-nil}
use lib.Dec.{ltb, leb, eqb}
use borrow.Author.Tests.{le-leb, lt-leb, eq-eqb, ne_eqb, not-true}
use Rattle.rules.specs.Order.{count, on, first}
use Rattle.rules.specs.Search.{State, waiting, before, choice, visit, next, GoesOn}
use Rattle.laws.proofs.Tests.{none-some, and_l, and_r, or_l, or_r, or_assoc, or_false, or_off, le_or_lt}
use Rattle.laws.proofs.Tests.{count_same, count_less, count_one}
use Rattle.laws.proofs.Order.{first_same, first_cases}

-- ---- the trail

pub on_snoc : (t : List ℕ) (x y : ℕ) → on (t ++ (x ∷ [])) y ≡ on t y || eqb x y
unfolding on
on_snoc [] x y = or_false (eqb x y)
on_snoc (z ∷ t) x y = ap (λ (b : Bool). eqb z y || b) (on_snoc t x y) ∙ sym (or_assoc (eqb z y) (on t y) (eqb x y))

pub snoc_count : (n : ℕ) (t : List ℕ) (x : ℕ) → x < n → on t x ≡ false → count n (on (t ++ (x ∷ []))) ≡ suc (count n (on t))
snoc_count n t x l f =
    count_one
    n
    (on t)
    (on (t ++ (x ∷ [])))
    x
    l
    f
    (on_snoc t x x ∙ or_r (on t x) (eqb x x) (eq-eqb x x refl))
    (λ y d. sym (on_snoc t x y ∙ rw (ne_eqb x y (λ q. d (sym q))) (or_false (on t y))))

-- the ids that are not on the trail
unfoldable pub off : State → ℕ → Bool
off s y = not (on s.trail y)

-- an id that waits is seen, and is not on the trail
pub waits-seen : (s : State) (x : ℕ) → waiting s x ≡ true → s.seen x ≡ true
unfolding waiting
waits-seen s x e = and_l (s.seen x) (not (on s.trail x)) e

pub waits_off : (s : State) (x : ℕ) → waiting s x ≡ true → off s x ≡ true
unfolding waiting off
waits_off s x e = and_r (s.seen x) (not (on s.trail x)) e

-- a visit to an id that waits takes one of them away
visit_off : (edge : ℕ → ℕ → Bool) (s : State) (x y : ℕ) → off (visit edge s x) y ≡ not (on s.trail y || eqb x y)
unfolding off visit
visit_off edge s x y = ap not (on_snoc s.trail x y)

pub visit_fewer : (n : ℕ) (edge : ℕ → ℕ → Bool) (s : State) (x : ℕ) → x < n → waiting s x ≡ true → count n (off (visit edge s x)) < count n (off s)
unfolding off
visit_fewer n edge s x l e =
    count_less
    n
    (off (visit edge s x))
    (off s)
    (λ y k o. ap not (or_off (on s.trail y) (eqb x y) (not-true (on s.trail y || eqb x y) (sym (visit_off edge s x y) ∙ o))))
    x
    l
    (visit_off edge s x x ∙ ap not (or_r (on s.trail x) (eqb x x) (eq-eqb x x refl)))
    (waits_off s x e)

module _ (n : ℕ) where
  pub goes_on-refl : (s : State) → GoesOn n s s
  goes_on-refl s = ([], sym (append-nil s.trail), λ y l e. e)

  pub goes_on_trans : (s t u : State) → GoesOn n s t → GoesOn n t u → GoesOn n s u
  goes_on_trans s t u p q = (
    p.0 ++ q.0,
    q.1 ∙ ap (λ l. l ++ q.0) p.1 ∙ append_assoc s.trail p.0 q.0,
    λ y l e. q.2 y l (p.2 y l e),
  )

  pub goes_on-visit : (edge : ℕ → ℕ → Bool) (s : State) (x : ℕ) → GoesOn n s (visit edge s x)
  unfolding visit
  goes_on-visit edge s x = (x ∷ [], refl, λ y l e. or_l (s.seen y) (edge x y) e)

-- ---- the choice, by cases; it goes by the ids below n alone

module _ (n : ℕ) (key : ℕ → ℕ) (width : ℕ) where
  pub choice-none : (seen waits : ℕ → Bool) → first key n waits ≡ none → choice n key width seen waits ≡ none
  unfolding choice
  choice-none seen waits e = rw (e, choice)

  pub choice-some : (seen waits : ℕ → Bool) {x : ℕ} → first key n waits ≡ some x →
      choice n key width seen waits ≡ cond (leb width (before n key seen x)) none (some x)
  unfolding choice
  choice-some seen waits e = rw (e, choice)

  pub choice_same : (a b p q : ℕ → Bool)
      → ((y : ℕ) → y < n → a y ≡ b y)
      → ((y : ℕ) → y < n → p y ≡ q y)
      → choice n key width a p ≡ choice n key width b q
  unfolding before
  choice_same a b p q f g =
      ⊎_elim
      (λ e. choice-none a p (first_same key n p q g ∙ e) ∙ sym (choice-none b q e))
      (λ h.
      let sooner : ℕ → Bool = λ y. ltb (key y) (key h.0) in
      let as_many = count_same n (λ y. a y && sooner y) (λ y. b y && sooner y) (λ y l. ap (λ c. c && sooner y) (f y l)) in
      choice-some a p (first_same key n p q g ∙ h.1)
      ∙ ap (λ m. cond (leb width m) none (some h.0)) as_many
      ∙ sym (choice-some b q h.1))
      (first_cases key n q)

-- ---- the next visit, by cases

module _ (n : ℕ) (key : ℕ → ℕ) (width : ℕ) (s : State) where
  pub next-visit : (x : ℕ) → first key n (waiting s) ≡ some x → before n key s.seen x < width → next n key width s ≡ some x
  unfolding next choice
  next-visit x e l = rw (e, choice, lt-leb width (before n key s.seen x) l)

  next-stop : (x : ℕ) → first key n (waiting s) ≡ some x → width ≤ before n key s.seen x → next n key width s ≡ none
  unfolding next choice
  next-stop x e l = rw (e, choice, le-leb width (before n key s.seen x) l)

  next_empty : first key n (waiting s) ≡ none → next n key width s ≡ none
  unfolding next choice
  next_empty e = rw (e, choice)

  -- either nothing waits, or the first x that waits has the width's number of seen ids before it, or x is visited
  pub next_cases : (first key n (waiting s) ≡ none)
      ⊎ ((x : ℕ) × (first key n (waiting s) ≡ some x) × ((width ≤ before n key s.seen x) ⊎ (before n key s.seen x < width)))
  next_cases = ⊎_elim inl (λ f. inr (f.0, f.1, le_or_lt width (before n key s.seen f.0))) (first_cases key n (waiting s))

  pub stop_or_visit : (next n key width s ≡ none) ⊎ ((x : ℕ) × (next n key width s ≡ some x))
  stop_or_visit =
      ⊎_elim
      (λ e. inl (next_empty e))
      (λ f. ⊎_elim (λ l. inl (next-stop f.0 f.1 l)) (λ l. inr (f.0, next-visit f.0 f.1 l)) f.2)
      next_cases

  -- what a visit tells
  pub visits : {x : ℕ} → next n key width s ≡ some x → (first key n (waiting s) ≡ some x) × (before n key s.seen x < width)
  visits {x} v =
      ⊎_elim
      (λ e. absurd (none-some (sym (next_empty e) ∙ v)))
      (λ f.
      ⊎_elim
      (λ l. absurd (none-some (sym (next-stop f.0 f.1 l) ∙ v)))
      (λ l. let q : f.0 ≡ x = cc (next-visit f.0 f.1 l, v) in (rw q at f.1, rw q at l))
      f.2)
      next_cases

  -- what a stop tells
  pub stops : next n key width s ≡ none
      → (first key n (waiting s) ≡ none) ⊎ ((x : ℕ) × (first key n (waiting s) ≡ some x) × (width ≤ before n key s.seen x))
  stops e =
      ⊎_elim
      inl
      (λ f. ⊎_elim (λ l. inr (f.0, f.1, l)) (λ l. absurd (none-some (sym e ∙ next-visit f.0 f.1 l))) f.2)
      next_cases
