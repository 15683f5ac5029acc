-- The whole search: that it stops within n visits, and what a larger width changes. Assumes nothing.
use Prim.Native.Nat.{ℕ, zero, suc, ◌≤◌, ◌<◌}
use native.Mathlib.Nat.{le_trans, not-suc-le-zero}
use native.Mathlib.Omega.{arith}
use mathlib.Core.Path.{◌≡◌, refl, sym, ap, ◌∙◌}
use mathlib.Core.Logic.{⊎_elim}
use mathlib.Core.Bool.{Bool, true, false, false≢true}
use mathlib.Core.Option.{none, some}
use mathlib.Core.List.{[], ◌∷◌}
use lib.ListN.{length, length-append}
use lib.Dec.{eqb}
use borrow.Author.Tests.{eqb-true, not-true}
use Rattle.rules.specs.Order.{count, on, Ordered, NoLater}
use Rattle.rules.specs.Search.{State, waiting, start, visit, next, run, search, answer, GoesOn}
use Rattle.laws.proofs.Tests.{none-some, or_l, or_cases}
use Rattle.laws.proofs.Tests.{count-pos, count_le, count_mono, count_lt, count_none}
use Rattle.laws.proofs.Order.{first_some, firsts_no_later}
use Rattle.laws.proofs.Visits.{off, on_snoc, waits-seen, waits_off, goes_on-refl, goes_on_trans, goes_on-visit, stop_or_visit, visits, snoc_count, visit_fewer, next-visit}

module _ (n : ℕ) (key : ℕ → ℕ) (edge : ℕ → ℕ → Bool) (width : ℕ) where
  -- ---- a run

  pub run_stops : (fuel : ℕ) (s : State) → next n key width s ≡ none → run n key edge width fuel s ≡ s
  unfolding run
  run_stops zero s e = refl
  run_stops (suc fuel) s e = rw (e, run)

  pub run_visits : (fuel : ℕ) (s : State) {x : ℕ}
      → next n key width s ≡ some x
      → run n key edge width (suc fuel) s ≡ run n key edge width fuel (visit edge s x)
  unfolding run
  run_visits fuel s v = rw (v, run)

  -- what each visit keeps, a run keeps
  pub run_keeps : (P : State → Type 0) → ((s : State) (x : ℕ) → next n key width s ≡ some x → P s → P (visit edge s x)) → (fuel : ℕ) (s : State) →
      P s → P (run n key edge width fuel s)
  unfolding run
  run_keeps P keeps zero s h = h
  run_keeps P keeps (suc fuel) s h =
      ⊎_elim
      (λ e. rw (run_stops (suc fuel) s e) h)
      (λ f. rw (run_visits fuel s f.1) (run_keeps P keeps fuel (visit edge s f.0) (keeps s f.0 f.1 h)))
      (stop_or_visit n key width s)

  pub run_goes_on : (fuel : ℕ) (s : State) → GoesOn n s (run n key edge width fuel s)
  run_goes_on fuel s = run_keeps (GoesOn n s) (λ t x v h. goes_on_trans n s t (visit edge t x) h (goes_on-visit n edge t x)) fuel s (goes_on-refl n s)

  -- ---- n visits are enough

  run_enough : (fuel : ℕ) (s : State) → count n (off s) ≤ fuel → next n key width (run n key edge width fuel s) ≡ none
  unfolding run
  run_enough zero s h =
      ⊎_elim
      (λ e. e)
      (λ f.
      let l = first_some key n (waiting s) (visits n key width s f.1).0 in
      absurd (not-suc-le-zero (le_trans (count-pos n (off s) f.0 l.0 (waits_off s f.0 l.1)) h)))
      (stop_or_visit n key width s)
  run_enough (suc fuel) s h =
      ⊎_elim
      (λ e. rw (run_stops (suc fuel) s e) e)
      (λ f.
      let l = first_some key n (waiting s) (visits n key width s f.1).0 in
      rw (run_visits fuel s f.1) (run_enough fuel (visit edge s f.0) (omega (arith, visit_fewer n edge s f.0 l.0 l.1))))
      (stop_or_visit n key width s)

  -- the search ends at a real stop: there is no next visit
  pub search_stops : (given : ℕ → Bool) → next n key width (search n key edge width given) ≡ none
  unfolding search
  search_stops given = run_enough n (start given) (count_le n (off (start given)))

  -- ---- for an engine that makes one visit after another: the state after i + 1 visits, and the state at the stop

  pub run-next : (i : ℕ) (s : State) {x : ℕ} → next n key width (run n key edge width i s) ≡ some x →
      run n key edge width (suc i) s ≡ visit edge (run n key edge width i s) x
  unfolding run
  run-next zero s v = run_visits 0 s v
  run-next (suc i) s {x} v =
      ⊎_elim
      (λ e. absurd (none-some (sym e ∙ rw (run_stops (suc i) s e) at v)))
      (λ f.
      run_visits (suc i) s f.1
      ∙ run-next i (visit edge s f.0) (rw (run_visits i s f.1) at v)
      ∙ ap (λ t. visit edge t x) (sym (run_visits i s f.1)))
      (stop_or_visit n key width s)

  pub run-done : (i j : ℕ) (s : State)
      → i ≤ j
      → next n key width (run n key edge width i s) ≡ none
      → run n key edge width j s ≡ run n key edge width i s
  unfolding run
  run-done zero j s h e = run_stops j s e
  run-done (suc i) zero s h e = absurd (not-suc-le-zero h)
  run-done (suc i) (suc j) s h e =
      ⊎_elim
      (λ k. run_stops (suc j) s k ∙ sym (run_stops (suc i) s k))
      (λ k. run_visits j s k.1 ∙ run-done i j (visit edge s k.0) (omega arith) (rw (run_visits i s k.1) at e) ∙ sym (run_visits i s k.1))
      (stop_or_visit n key width s)

  -- ---- walked is at most seen, and seen at most n

  -- the ids on the trail are below n, seen, and different
  abbrev pub Sound : State → Type 0
  Sound s = ((y : ℕ) → on s.trail y ≡ true → (y < n) × (s.seen y ≡ true)) × (count n (on s.trail) ≡ length s.trail)

  visit-sound : (s : State) (x : ℕ) → next n key width s ≡ some x → Sound s → Sound (visit edge s x)
  unfolding visit off
  visit-sound s x v h =
      let l = first_some key n (waiting s) (visits n key width s v).0 in (
        λ y o.
            ⊎_elim
            (λ k. ((h.0 y k).0, or_l (s.seen y) (edge x y) (h.0 y k).1))
            (λ k. let q = eqb-true x y k in (rw q at l.0, or_l (s.seen y) (edge x y) (waits-seen s y (rw q at l.1))))
            (or_cases (on s.trail y) (eqb x y) (sym (on_snoc s.trail x y) ∙ o)),
        snoc_count n s.trail x l.0 (not-true (on s.trail x) (waits_off s x l.1)) ∙ omega (arith, h.1, length-append s.trail (x ∷ [])),
      )

  start-sound : (given : ℕ → Bool) → Sound (start given)
  unfolding start on
  start-sound given = (λ y o. absurd (false≢true o), count_none n (λ y. false) (λ y l e. false≢true e))

  pub run_sound : (i : ℕ) (given : ℕ → Bool) → Sound (run n key edge width i (start given))
  run_sound i given = run_keeps Sound visit-sound i (start given) (start-sound given)

  -- a visit finds room on the trail
  pub visits_room : (s : State) {x : ℕ} → Sound s → next n key width s ≡ some x → length s.trail < n
  unfolding off
  visits_room s {x} h v =
      let l = first_some key n (waiting s) (visits n key width s v).0 in
      omega (arith, h.1, count_lt n (on s.trail) x l.0 (not-true (on s.trail x) (waits_off s x l.1)))

  pub walked_le_seen : (s : State) → Sound s → length s.trail ≤ count n s.seen
  walked_le_seen s h = omega (arith, h.1, count_mono n (on s.trail) s.seen (λ y l o. (h.0 y o).1))

-- ---- a larger width

module _ (n : ℕ) (key : ℕ → ℕ) (edge : ℕ → ℕ → Bool) (width wider : ℕ) (le : width ≤ wider) where
  run_wider : (fuel : ℕ) (s : State) → GoesOn n (run n key edge width fuel s) (run n key edge wider fuel s)
  unfolding run
  run_wider zero s = goes_on-refl n s
  run_wider (suc fuel) s =
      ⊎_elim
      (λ e. rw (run_stops n key edge width (suc fuel) s e) (run_goes_on n key edge wider (suc fuel) s))
      (λ f.
      let v = visits n key width s f.1 in
      rw
      (run_visits n key edge width fuel s f.1, run_visits n key edge wider fuel s (next-visit n key wider s f.0 v.0 (omega (arith, v.1))))
      (run_wider fuel (visit edge s f.0)))
      (stop_or_visit n key width s)

  -- the narrower search's trail begins the wider one's, and what it saw the wider one saw
  pub search_wider : (given : ℕ → Bool) → GoesOn n (search n key edge width given) (search n key edge wider given)
  unfolding search
  search_wider given = run_wider n (start given)

  -- the wider search finds at least as many, and at each place of the narrower one's answers the same id or an earlier one
  pub answer_wider : Ordered n key → (given : ℕ → Bool) (k : ℕ) →
      NoLater key (answer n key k (search n key edge width given)) (answer n key k (search n key edge wider given))
  unfolding answer
  answer_wider ordered given k = firsts_no_later key n ordered k _ _ (search_wider given).2
