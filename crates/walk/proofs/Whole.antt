-- What holds of a whole walk: it is made of steps that are not refused, it comes to a real end in at most n - 1 moves, and where the query is a point of
-- a closing graph it ends at D = 0. Assumes nothing.
use Prim.Native.Nat.{ℕ, zero, suc, ◌≤◌, ◌<◌}
use native.Mathlib.Nat.{lt_irrefl}
use native.Mathlib.Numerals.{add-one}
use native.Mathlib.Omega.{arith}
use mathlib.Core.Path.{◌≡◌, refl, sym, ap, ◌∙◌}
use mathlib.Core.Logic.{◌⊎◌, ⊎_elim}
use mathlib.Core.Bool.{Bool}
use mathlib.Core.Option.{Option, none, some}
use mathlib.Core.List.{List}
use lib.IntN.{ℤ}
use lib.ListN.{length}
use Rattle.rules.specs.Outcome.{refused, gives, outcome}
use Rattle.rules.specs.Points.{dist, coordinates, apart, away}
use Rattle.rules.specs.Labels.{edge_in}
use Rattle.rules.specs.Edges.{Closing}
use Rattle.rules.specs.Refusals.{walk_refusal}
use Rattle.rules.specs.Walk.{Walk as Record, walk, walk_from}
use Rattle.rules.specs.Entries.{End as Ending, goes_to, step_refused, record_after, ending, end_of, walk_answer}
use Rattle.laws.proofs.Distances.{apart_symmetric, dist_self}
use Rattle.laws.proofs.Refusals.{outcome-gives}
use Rattle.laws.proofs.Walk.{step_cases, walk_stays, walk-moves, walk_ends, walk_arrives}
use Rattle.laws.proofs.Walking.{Passes, passes_start, passes_move, passes_short}
use Rattle.walk.specs.declared.answers.End.{End}
use Rattle.std.specs.Prelude.{Result, Ok, Err}
use Rattle.space.specs.declared.refusal.Refusal.{Refusal}
use Rattle.space.specs.declared.refusal.Refusal.TheVariants.{Moves}
use Rattle.space.specs.Told.{number}
use Rattle.walk.specs.Answers.{at, end_in, told_end}
use Rattle.laws.specs.Lent.{StartOk}
use Rattle.walk.specs.Whole.{steps_on, BySteps, Arrived}
use Rattle.walk.proofs.Taken.{taken, another, no_eighteen}
use Rattle.walk.proofs.Steps.{number_end, number-move, step_ends, step_moves}

module _ (n d : ℕ) (vectors : List ℤ) (table : List ℕ) (query : List ℤ) (threshold start : ℕ)
    (given : walk_refusal n d (length vectors) (length table) (length query) start threshold ≡ 0) where
  abbrev D : ℕ → ℕ
  D = away d vectors query

  abbrev edge : ℕ → ℕ → Bool
  edge = edge_in table n threshold

  abbrev goes : ℕ → Option ℕ
  goes = goes_to n d vectors table query threshold

  abbrev next : Record → Record
  next = record_after n d vectors table query threshold

  known : StartOk n d (length vectors) (length table) (length query) start
  known = taken n d (length vectors) (length table) (length query) start threshold given

  abbrev Comes : Record → Type 0
  Comes w = Passes n D edge start w

  few : n ≤ 128
  few = known.asked.few-points

  -- ---- the steps of a walk

  -- an id that the walk comes by is not refused
  still : (w : Record) → Comes w → walk_refusal n d (length vectors) (length table) (length query) w.current threshold ≡ 0
  still w p = another n d (length vectors) (length table) (length query) start threshold w.current given p.within

  cases : (w : Record) → (goes w.current ≡ none) ⊎ ((x : ℕ) × (goes w.current ≡ some x))
  unfolding goes_to
  cases w = step_cases n D edge w.current

  -- a step that is due to move has moves to spare
  spare : (w : Record) → Comes w → (x : ℕ) → goes w.current ≡ some x → w.moves < 127
  unfolding goes_to
  spare w p x e = omega (arith, few, passes_short n D edge p x e)

  unrefused : (w : Record) → Comes w → step_refused n d vectors table query threshold w ≡ 0
  unrefused w p =
      ⊎_elim
      (λ e. number_end n d vectors table query threshold w (still w p) e)
      (λ m. number-move n d vectors table query threshold w (still w p) m.0 m.1 (spare w p m.0 m.1))
      (cases w)

  stays : (w : Record) → Comes w → goes w.current ≡ none → next w ≡ w
  stays w p e = sym (step_ends n d vectors table query threshold w (still w p) e).1

  moves : (w : Record) → Comes w → (x : ℕ) → goes w.current ≡ some x → next w ≡ record { current = x; moves = suc w.moves }
  moves w p x e = rw (← add-one) (sym (step_moves n d vectors table query threshold w (still w p) x e (spare w p x e)).1)

  comes_on : (w : Record) → Comes w → Comes (next w)
  unfolding goes_to
  comes_on w p =
      ⊎_elim
      (λ e. rw (stays w p e) p)
      (λ m. rw (moves w p m.0 m.1) (passes_move n D edge p m.0 m.1))
      (cases w)

  never : (k : ℕ) (w : Record) → Comes w → step_refused n d vectors table query threshold (steps_on n d vectors table query threshold k w) ≡ 0
  unfolding steps_on
  never zero w p = unrefused w p
  never (suc k) w p = never k (next w) (comes_on w p)

  one_step : (k : ℕ) (w : Record) → Comes w → walk n D edge k (next w) ≡ walk n D edge (suc k) w
  unfolding goes_to
  one_step k w p =
      ⊎_elim
      (λ e.
      rw (stays w p e)
      (walk_stays n D edge k w e
      ∙ sym (walk_stays n D edge (suc k) w e)))
      (λ m. rw (moves w p m.0 m.1) (sym (walk-moves n D edge k w m.0 m.1)))
      (cases w)

  same : (k : ℕ) (w : Record) → Comes w → steps_on n d vectors table query threshold k w ≡ walk n D edge k w
  unfolding steps_on walk
  same zero w p = refl
  same (suc k) w p = same k (next w) (comes_on w p) ∙ one_step k w p

  starts : Comes (at start 0)
  starts =
      passes_start n D edge start known.start_in

  pub by_steps : BySteps n d vectors table query threshold start
  unfolding ending walk_from
  by_steps = record { never_refused = λ k. never k (at start 0) starts; same_end = same n (at start 0) starts }

  -- ---- where a walk that is not refused ends

  -- its answer is an end
  ends : (r : Result End Refusal) → told_end r ≡ walk_answer n d vectors table query threshold start →
      (e : End) × (r ≡ Ok e) × (end_in e ≡ end_of n d vectors table query threshold start)
  unfolding walk_answer
  ends (Err r) q = let is = q ∙ outcome-gives given (end_of n d vectors table query threshold start) in absurd (not-given (number r) is)
    where
      not-given : (k : ℕ) → refused k ≡ gives (end_of n d vectors table query threshold start) → ⊥
      not-given k q = let z : ◌≡◌ {A = ℕ} 0 1 = cc in omega arith
  ends (Ok e) q =
      let is = q ∙ outcome-gives given (end_of n d vectors table query threshold start) in
      let same : end_in e ≡ end_of n d vectors table query threshold start = cc in
      (e, refl, same)

  real_end : (e : End) → end_in e ≡ end_of n d vectors table query threshold start → Arrived n d vectors table query threshold e
  unfolding end_of ending goes_to
  real_end e q =
      let s = walk_ends n D edge start known.start_in in
      let id : e.last ≡ (walk_from n D edge start).current = ap (λ (x : Ending). x.last) q in
      let count : e.moves ≡ (walk_from n D edge start).moves = ap (λ (x : Ending). x.moves) q in
      record {
        within = rw id s.within;
        stopped = rw id s.stopped;
        far = ap (λ (x : Ending). x.distance) q ∙ ap D (sym id);
        short = rw count s.short;
      }

  pub arrives : (r : Result End Refusal) → told_end r ≡ walk_answer n d vectors table query threshold start →
      (e : End) × (r ≡ Ok e) × Arrived n d vectors table query threshold e
  arrives r q = let f = ends r q in (f.0, f.1, real_end f.0 f.2)

  -- D from a query that is the point v
  from_point : (v : ℕ) → query ≡ coordinates d vectors v → (u : ℕ) → D u ≡ apart d vectors u v
  unfolding away apart
  from_point v is u = ap (dist (coordinates d vectors u)) is

  apart_self : (v : ℕ) → apart d vectors v v ≡ 0
  unfolding apart
  apart_self v = dist_self (coordinates d vectors v)

  zero_end : Closing (apart d vectors) n edge → (v : ℕ) → v < n → query ≡ coordinates d vectors v → (e : End) →
      end_in e ≡ end_of n d vectors table query threshold start → e.distance ≡ 0
  unfolding end_of ending
  zero_end closing v l is e q =
      let zero : D v ≡ 0 = from_point v is v ∙ apart_self v in
      let found = walk_arrives n D edge few (apart d vectors) (apart_symmetric d vectors) closing v l (λ u k. from_point v is u) zero start known.start_in in
      ap (λ (x : Ending). x.distance) q ∙ found.nearest ∙ zero

  -- document 01: where the query is a point, and the table's edges close, the walk ends at D = 0
  pub arrives_at-zero : Closing (apart d vectors) n (edge_in table n threshold) → (v : ℕ) → v < n → query ≡ coordinates d vectors v → (r : Result End Refusal) →
      told_end r ≡ walk_answer n d vectors table query threshold start → (e : End) × (r ≡ Ok e) × (e.distance ≡ 0)
  arrives_at-zero closing v l is r q = let f = ends r q in (f.0, f.1, zero_end closing v l is f.0 f.2)

-- the whole walk never answers 18
pub never_eighteen : (n d : ℕ) (vectors : List ℤ) (table : List ℕ) (query : List ℤ) (threshold start : ℕ) →
    told_end (Err Moves) ≡ walk_answer n d vectors table query threshold start → ⊥
unfolding walk_answer outcome
never_eighteen n d vectors table query threshold start q =
    let small = no_eighteen n d (length vectors) (length table) (length query) start threshold in
    go (walk_refusal n d (length vectors) (length table) (length query) start threshold) small q
  where
    go : (k : ℕ) → k ≤ 9 → refused 18 ≡ outcome k (end_of n d vectors table query threshold start) → ⊥
    go zero h q = let z : ◌≡◌ {A = ℕ} 0 1 = cc in omega arith
    go (suc k) h q = let z : 18 ≡ suc k = cc in lt_irrefl 9 (omega arith)
