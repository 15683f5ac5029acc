-- On a closing graph, a search whose width is at least the number of points sees them all, so that its answers are the first of all. Assumes nothing.
use Prim.Native.Nat.{ℕ, zero, suc, ◌≤◌, ◌<◌}
use native.Mathlib.Nat.{le_refl, not-suc-le-zero, lt_irrefl, lt-suc_self}
use native.Mathlib.Omega.{arith}
use mathlib.Core.Path.{◌≡◌, sym, ap, ◌∙◌}
use mathlib.Core.Logic.{⊎_elim}
use mathlib.Core.Bool.{Bool, true, not, ◌&&◌, false≢true}
use mathlib.Core.Option.{none}
use lib.Dec.{ltb, eqb}
use borrow.Author.Tests.{le-ltb, eqb-true, eqb-false}
use Rattle.rules.specs.Order.{on, firsts}
use Rattle.rules.specs.Search.{State, waiting, start, before, visit, next, search, answer}
use Rattle.rules.specs.Edges.{Closing, Symmetric}
use Rattle.laws.proofs.Tests.{both, and_i, and_false, or_l, or_r, or_cases, count_lt}
use Rattle.laws.proofs.Order.{first-none, first_some, firsts_same}
use Rattle.laws.proofs.Visits.{on_snoc, stops}
use Rattle.laws.proofs.Search.{run_keeps, run_goes_on, search_stops}

module _ (edge : ℕ → ℕ → Bool) where
  -- the edges from each id on the trail have been followed
  abbrev Followed : State → Type 0
  Followed s = (x y : ℕ) → on s.trail x ≡ true → edge x y ≡ true → s.seen y ≡ true

  start_followed : (given : ℕ → Bool) → Followed (start given)
  unfolding start on
  start_followed given x y o e = absurd (false≢true o)

  visit_followed : (s : State) (x : ℕ) → Followed s → Followed (visit edge s x)
  unfolding visit
  visit_followed s x h z y o e =
      ⊎_elim
      (λ k. or_l (s.seen y) (edge x y) (h z y k e))
      (λ k. or_r (s.seen y) (edge x y) (rw (eqb-true x z k) e))
      (or_cases (on s.trail z) (eqb x z) (sym (on_snoc s.trail x z) ∙ o))

-- fewer than n ids come before one of them
before_lt : (n : ℕ) (key : ℕ → ℕ) (seen : ℕ → Bool) (x : ℕ) → x < n → before n key seen x < n
unfolding before
before_lt n key seen x l = count_lt n (λ y. seen y && ltb (key y) (key x)) x l (rw (le-ltb (key x) (key x) (le_refl (key x))) (and_false (seen x)))

module _ (n : ℕ) (key : ℕ → ℕ) (edge : ℕ → ℕ → Bool) (width : ℕ) (wide : n ≤ width) where
  -- with such a width a search stops only when nothing waits
  wide_done : (s : State) → next n key width s ≡ none → (y : ℕ) → y < n → s.seen y ≡ true → on s.trail y ≡ true
  unfolding waiting
  wide_done s e y l t =
      ⊎_elim
      (λ f. ⊎_elim
      (λ o. o)
      (λ o. absurd (first-none key n (waiting s) f y l (and_i (s.seen y) (not (on s.trail y)) t (ap not o))))
      (both (on s.trail y)))
      (λ f. absurd (lt_irrefl n (omega (arith, f.2, before_lt n key s.seen f.0 (first_some key n (waiting s) f.1).0))))
      (stops n key width s e)

  module _ (given : ℕ → Bool) where
    followed : Followed edge (search n key edge width given)
    unfolding search
    followed = run_keeps n key edge width (Followed edge) (λ s x v h. visit_followed edge s x h) n (start given) (start_followed edge given)

    -- what is seen at the end is closed under the edges
    pub seen_closed : (x y : ℕ)
        → x < n
        → (search n key edge width given).seen x ≡ true
        → edge x y ≡ true
        → (search n key edge width given).seen y ≡ true
    seen_closed x y l t e = followed x y (wide_done (search n key edge width given) (search_stops n key edge width given) x l t) e

    module _ (δ : ℕ → ℕ → ℕ) (symm : Symmetric δ) (closing : Closing δ n edge) where
      reach : (m u v : ℕ) → δ u v < m → u < n → v < n → (search n key edge width given).seen u ≡ true → (search n key edge width given).seen v ≡ true
      reach zero u v h lu lv t = absurd (not-suc-le-zero h)
      reach (suc m) u v h lu lv t =
          ⊎_elim
          (λ e. rw (eqb-true u v e) at t)
          (λ e.
          ⊎_elim
          (λ k. seen_closed u v lu t k)
          (λ f. reach m f.0 v (omega (arith, f.3, symm v f.0)) f.1 lv (seen_closed u f.0 lu t f.2))
          (closing u v lu lv (eqb-false u v e)))
          (both (eqb u v))

      -- every id is seen, whatever ids are seen at first
      pub all_seen : (u : ℕ) → u < n → given u ≡ true → (v : ℕ) → v < n → (search n key edge width given).seen v ≡ true
      unfolding search start
      all_seen u lu t v lv = reach (suc (δ u v)) u v (lt-suc_self (δ u v)) lu lv ((run_goes_on n key edge width n (start given)).2 u lu t)

      -- the answers are the first k of all the ids in order, or all of them if fewer
      pub answer-whole : (u : ℕ) → u < n → given u ≡ true → (k : ℕ) → answer n key k (search n key edge width given) ≡ firsts key n k (λ y. true)
      unfolding answer
      answer-whole u lu t k = firsts_same key n k _ _ (all_seen u lu t)
