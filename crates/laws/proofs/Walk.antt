-- Where the greedy walk ends, and after how many moves. Assumes nothing.
use Prim.Native.Nat.{ℕ, zero, suc, ◌+◌, ◌≤◌, ◌<◌}
use native.Mathlib.Nat.{le_refl, le_antisymm, lt_irrefl}
use native.Mathlib.Omega.{arith}
use mathlib.Core.Path.{◌≡◌, refl, sym}
use mathlib.Core.Logic.{◌⊎◌, inl, inr, ⊎_elim}
use mathlib.Core.Bool.{Bool, true, false, cond}
use mathlib.Core.Option.{Option, none, some}
use lib.Dec.{ltb}
use borrow.Author.Tests.{ltb-true, ltb-false, lt-ltb, le-ltb}
use Rattle.rules.specs.Order.{count, first, keyed}
use Rattle.rules.specs.Edges.{Closing, Symmetric}
use Rattle.rules.specs.Walk.{Walk, step_from, step_to, walk, walk_from, NearestId, Finds}
use Rattle.laws.specs.Ends.{Stopped}
use Rattle.laws.proofs.Tests.{le_or_lt, none-some, count_less, count_lt}
use Rattle.laws.proofs.Order.{first-none, first_some, first_cases}

module _ (n : ℕ) (D : ℕ → ℕ) (edge : ℕ → ℕ → Bool) where
  -- ---- one step

  pub step_cases : (u : ℕ) → (step_to n D edge u ≡ none) ⊎ ((x : ℕ) × (step_to n D edge u ≡ some x))
  step_cases u = go (step_to n D edge u) refl
    where
      go : (r : Option ℕ) → step_to n D edge u ≡ r → (step_to n D edge u ≡ none) ⊎ ((x : ℕ) × (step_to n D edge u ≡ some x))
      go none e = inl e
      go (some x) e = inr (x, e)

  -- a step moves to an id that is strictly nearer
  pub step_nearer : (u x : ℕ) → step_to n D edge u ≡ some x → (x < n) × (D x < D u)
  unfolding step_to
  step_nearer u x e = go (first (keyed D) n (edge u)) refl e
    where
      pick : (y : ℕ) (b : Bool) → ltb (D y) (D u) ≡ b → y < n → cond b (some y) none ≡ some x → (x < n) × (D x < D u)
      pick y true t l f = let s : y ≡ x = cc in (rw s at l, rw s at (ltb-true (D y) (D u) t))
      pick y false t l f = absurd (none-some f)

      go : (r : Option ℕ) → first (keyed D) n (edge u) ≡ r → elim r [ none ↦ none | some x ↦ cond (ltb (D x) (D u)) (some x) none ] ≡ some x →
          (x < n) × (D x < D u)
      go none f k = absurd (none-some k)
      go (some y) f k = pick y (ltb (D y) (D u)) refl (first_some (keyed D) n (edge u) f).0 k

  -- a step that does not move has no edge to a nearer id
  step_end : n ≤ 128 → (u : ℕ) → step_to n D edge u ≡ none → (w : ℕ) → w < n → edge u w ≡ true → D u ≤ D w
  unfolding step_to keyed
  step_end small u e w l t =
      ⊎_elim
      (λ f. absurd (first-none (keyed D) n (edge u) f w l t))
      (λ f.
      let h = (first_some (keyed D) n (edge u) f.1).2 w l t in
      let k = stay f.0 f.1 in
      omega arith)
      (first_cases (keyed D) n (edge u))
    where
      no_move : (x : ℕ) (b : Bool) → ltb (D x) (D u) ≡ b → cond b (some x) none ≡ none → D u ≤ D x
      no_move x true t f = absurd (none-some (sym f))
      no_move x false t f = ltb-false (D x) (D u) t

      stay : (x : ℕ) → first (keyed D) n (edge u) ≡ some x → D u ≤ D x
      stay x f = no_move x (ltb (D x) (D u)) refl (rw (f, step_to) at e)

  -- ---- the whole walk

  pub walk_stays : (f : ℕ) (w : Walk) → step_to n D edge w.current ≡ none → walk n D edge f w ≡ w
  unfolding walk
  walk_stays zero w e = refl
  walk_stays (suc f) w e = rw (e, walk)

  pub walk-moves : (f : ℕ) (w : Walk) (x : ℕ) → step_to n D edge w.current ≡ some x →
      walk n D edge (suc f) w ≡ walk n D edge f (record { current = x; moves = suc w.moves })
  unfolding walk step_from
  walk-moves f w x e = rw (e, walk)

  -- how many ids are strictly nearer than u
  pub nearer : ℕ → ℕ
  nearer u = count n (λ y. ltb (D y) (D u))

  pub nearer_less : (u x : ℕ) → x < n → D x < D u → nearer x < nearer u
  unfolding nearer
  nearer_less u x l h =
      count_less
      n
      (λ y. ltb (D y) (D x))
      (λ y. ltb (D y) (D u))
      (λ y k e. lt-ltb (D y) (D u) (omega (arith, ltb-true (D y) (D x) e)))
      x
      l
      (le-ltb (D x) (D x) (le_refl (D x)))
      (lt-ltb (D x) (D u) h)

  pub nearer_lt : (u : ℕ) → u < n → nearer u < n
  unfolding nearer
  nearer_lt u l = count_lt n (λ y. ltb (D y) (D u)) u l (le-ltb (D u) (D u) (le_refl (D u)))

  -- e is where a walk from w ends: each move has left one nearer id fewer
  record Ended (w e : Walk) : Type 0 where
    within : e.current < n
    stopped : step_to n D edge e.current ≡ none
    counted : e.moves + nearer e.current ≤ w.moves + nearer w.current

  ended : (f : ℕ) (w : Walk) → w.current < n → nearer w.current ≤ f → Ended w (walk n D edge f w)
  ended zero w l h =
      ⊎_elim
      (λ e. rw (walk_stays zero w e) (record { within = l; stopped = e; counted = le_refl _ }))
      (λ f. let s = step_nearer w.current f.0 f.1 in absurd (lt_irrefl 0 (omega (arith, nearer_less w.current f.0 s.0 s.1))))
      (step_cases w.current)
  ended (suc k) w l h =
      ⊎_elim
      (λ e. rw (walk_stays (suc k) w e) (record { within = l; stopped = e; counted = le_refl _ }))
      (λ f.
      let s = step_nearer w.current f.0 f.1 in
      let c = nearer_less w.current f.0 s.0 s.1 in
      let r = ended k (record { current = f.0; moves = suc w.moves }) s.0 (omega arith) in
      rw (walk-moves k w f.0 f.1) (record { within = r.within; stopped = r.stopped; counted = omega (arith, r.counted) }))
      (step_cases w.current)

  -- a walk ends, on any table: at an id of the set, where no step moves, after at most n - 1 moves
  pub walk_ends : (start : ℕ) → start < n → Stopped n D edge (walk_from n D edge start)
  unfolding walk_from
  walk_ends start l =
      let r = ended n (record { current = start; moves = 0 }) l (omega (arith, nearer_lt start l)) in
      record { within = r.within; stopped = r.stopped; short = omega (arith, r.counted, nearer_lt start l) }

  -- where each id that is not a nearest one has an edge to a nearer id, the walk from every start ends at a nearest one, in at most n - 1 moves
  pub walk_finds : n ≤ 128 → (v : ℕ) → NearestId n D v → ((u : ℕ) → u < n → D v < D u → (w : ℕ) × (w < n) × (edge u w ≡ true) × (D w < D u)) →
      (start : ℕ) → start < n → Finds n D v (walk_from n D edge start)
  unfolding walk_from
  walk_finds small v near down start l =
      let x : ℕ = (walk n D edge n (record { current = start; moves = 0 })).current in
      let r = ended n (record { current = start; moves = 0 }) l (omega (arith, nearer_lt start l)) in
      record {
        within = r.within;
        nearest = ⊎_elim
            (λ h. le_antisymm h (near.1 x r.within))
            (λ h. let f = down x r.within h in absurd (lt_irrefl (D x) (omega (arith, f.3, step_end small x r.stopped f.0 f.1 f.2))))
            (le_or_lt (D x) (D v));
        short = omega (arith, r.counted, nearer_lt start l);
      }

  -- document 01: where the query is a point v, a closing graph leads there, so that the walk ends at D = 0
  pub walk_arrives : n ≤ 128 → (δ : ℕ → ℕ → ℕ) → Symmetric δ → Closing δ n edge → (v : ℕ) → v < n → ((u : ℕ) → u < n → D u ≡ δ u v) → D v ≡ 0 →
      (start : ℕ) → start < n → Finds n D v (walk_from n D edge start)
  walk_arrives small δ symm closing v lv is z =
      walk_finds small v (lv, λ y l. omega arith) λ u lu k.
      ⊎_elim
      (λ e. (v, lv, e, k))
      (λ f. (f.0, f.1, f.2, omega (arith, f.3, symm v f.0, is u lu, is f.0 f.1)))
      (closing u v lu lv (λ e. lt_irrefl (D v) (rw e at k)))
