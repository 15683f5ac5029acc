-- The lines of an ask by what the search answers. Assumes nothing.
use Prim.Native.Nat.{ℕ, zero, suc, ◌*◌, ◌≤◌}
use native.Mathlib.Omega.{arith}
use mathlib.Core.Path.{◌≡◌, refl, sym, ap, ◌∙◌}
use mathlib.Core.Bool.{Bool, true, false, cond, ◌||◌}
use mathlib.Core.List.{List, ◌++◌}
use lib.Dec.{ltb, leb}
use lib.ListN.{length, take, drop, length-append, length-map}
use lib.Seq.{take_at}
use borrow.Author.Tests.{le-ltb}
use Rattle.rules.specs.Outcome.{refused, gives, outcome, over}
use Rattle.rules.specs.Refusals.{outside, differ, search_refusal}
use Rattle.rules.specs.Lines.{ask_refused_line}
use Rattle.rules.specs.Entries.{Counts, Ask, farness, searched, near_ids, near_distances, counts_of, asked_refusal, refusal_of}
use Rattle.rules.specs.Entries.{search_answer, ids_after, distances_after, trail_after}
use Rattle.rules.specs.Program.{lines_of}
use Rattle.laws.proofs.Refusals.{inside, outcome-none, outcome_value, after_new}
use Rattle.lines.specs.Placing.{three_lines}

-- ---- refusal 10 is given by neither length

-- a choice whose other way is the same
other_way : (t : Bool) (x y z : ℕ) → (t ≡ false → y ≡ z) → cond t x y ≡ cond t x z
other_way true x y z h = refl
other_way false x y z h = h refl

room_enough : (n k ids distances trail : ℕ)
    → k ≤ ids
    → k ≤ distances
    → n ≤ trail
    → ◌≡◌ {A = ℕ} (cond (ltb ids k || (ltb distances k || ltb trail n)) 10 0) 0
room_enough n k ids distances trail i j l = rw (le-ltb ids k i, le-ltb distances k j, le-ltb trail n l)

pub same_refusal : (a : Ask) → asked_refusal a 128 128 128 ≡ asked_refusal a a.k a.k a.n
unfolding asked_refusal search_refusal
same_refusal a =
    other_way (outside 1 128 a.n) 1 _ _ (λ e1.
    other_way (outside 1 64 a.d) 2 _ _ (λ e2.
    other_way (differ (length a.vectors) (a.n * a.d)) 3 _ _ (λ e3.
    other_way (differ (length a.table) (a.n * a.n)) 4 _ _ (λ e4.
    other_way (differ (length a.query) a.d) 5 _ _ (λ e5.
    other_way (leb a.n a.start) 6 _ _ (λ e6.
    other_way (outside 1 128 a.width) 7 _ _ (λ e7.
    other_way (outside 1 a.width a.k) 8 _ _ (λ e8.
    other_way (ltb 32767 a.threshold) 9 _ _ (λ e9.
    let few = inside 1 128 a.n e1 in
    let narrow = inside 1 128 a.width e7 in
    let near = inside 1 a.width a.k e8 in
    room_enough a.n a.k 128 128 128 (omega arith) (omega arith) (omega arith)
    ∙ sym (room_enough a.n a.k a.k a.k a.n (omega arith) (omega arith) (omega arith)))))))))))

-- ---- the first cells of a buffer

front_room : (m : ℕ) (l old new : List ℕ) → m ≡ length l → new ≡ l ++ drop (length l) old → m ≤ length new
front_room m l old new e q = omega (arith, ap length q, length-append l (drop (length l) old))

front : (m : ℕ) (l old new : List ℕ) → m ≡ length l → new ≡ l ++ drop (length l) old → take m new ≡ l
front m l old new e q = ap (take m) q ∙ take_at l (drop (length l) old) m (sym e)

-- ---- the counts

module _ (a : Ask) where
  found-is : (counts_of a).found ≡ length (near_ids a)
  unfolding counts_of
  found-is = refl

  walked-is : (counts_of a).walked ≡ length (searched a).trail
  unfolding counts_of
  walked-is = refl

  distances_long : length (near_ids a) ≡ length (near_distances a)
  unfolding near_distances
  distances_long = sym (length-map (near_ids a) (farness a))

-- ---- the lines

module _ (i : ℕ) (a : Ask) where
  lines_by : (v : ℕ) → asked_refusal a 128 128 128 ≡ v → asked_refusal a a.k a.k a.n ≡ v
  lines_by v e = sym (same_refusal a) ∙ e

  lines_zero :
      asked_refusal a 128 128 128 ≡ 0 →
      lines_of i a ≡ three_lines i (counts_of a).found (counts_of a).seen (counts_of a).walked (near_ids a) (near_distances a) (searched a).trail
  unfolding lines_of three_lines
  lines_zero e = rw (lines_of, lines_by 0 e)

  lines_suc : (r : ℕ) → asked_refusal a 128 128 128 ≡ suc r → lines_of i a ≡ ask_refused_line i (suc r)
  unfolding lines_of
  lines_suc r e = rw (lines_of, lines_by (suc r) e)

  refused-by : (r v : ℕ) → asked_refusal a 128 128 128 ≡ v → refused r ≡ outcome v (counts_of a) → lines_of i a ≡ ask_refused_line i r
  unfolding outcome
  refused-by r zero e q = let z : ◌≡◌ {A = ℕ} 0 1 = cc in absurd (omega arith)
  refused-by r (suc v) e q = let s : suc v ≡ r = cc in lines_suc v e ∙ ap (ask_refused_line i) s

  -- what the search leaves in the buffers' first cells
  pub record Answered (found seen walked : ℕ) (ids distances trail : List ℕ) : Type 0 where
    pub ids_room : found ≤ length ids
    pub distances_room : found ≤ length distances
    pub trail_room : walked ≤ length trail
    pub lines_are : lines_of i a ≡ three_lines i found seen walked (take found ids) (take found distances) (take walked trail)

  module _ (ids distances trail : List ℕ) where
    buffers : length ids ≡ 128 → length distances ≡ 128 → length trail ≡ 128 → refusal_of a ids distances trail ≡ asked_refusal a 128 128 128
    unfolding refusal_of
    buffers li ld lt = rw (li, ld, lt)

    -- the line of a refused ask, whose two numbers the code has by other names
    pub refused_lines :
        (r j q : ℕ) → refused r ≡ search_answer a ids distances trail → length ids ≡ 128 → length distances ≡ 128 → length trail ≡ 128 →
        j ≡ i → q ≡ r → ask_refused_line j q ≡ lines_of i a
    unfolding search_answer
    refused_lines r j q e li ld lt ej eq =
        let told = e ∙ ap (λ (v : ℕ). outcome v (counts_of a)) (buffers li ld lt) in
        rw (ej, eq) (sym (refused-by r (asked_refusal a 128 128 128) refl told))

    pub answered :
        (found seen walked : ℕ) (ids' distances' trail' : List ℕ) →
        gives (record { found = found; seen = seen; walked = walked }) ≡ search_answer a ids distances trail →
        ids' ≡ ids_after a ids distances trail → distances' ≡ distances_after a ids distances trail → trail' ≡ trail_after a ids distances trail →
        length ids ≡ 128 → length distances ≡ 128 → length trail ≡ 128 → Answered found seen walked ids' distances' trail'
    unfolding search_answer ids_after distances_after trail_after over
    answered found seen walked ids' distances' trail' q qi qd qt li ld lt =
        let r = refusal_of a ids distances trail in
        let counts : Counts = record { found = found; seen = seen; walked = walked } in
        let none : r ≡ 0 = outcome-none r (counts_of a) counts (sym q) in
        let counted : counts_of a ≡ counts = outcome_value r (counts_of a) counts (sym q) in
        let f : found ≡ length (near_ids a) = ap (λ (x : Counts). x.found) (sym counted) ∙ found-is a in
        let w : walked ≡ length (searched a).trail = ap (λ (x : Counts). x.walked) (sym counted) ∙ walked-is a in
        let fd : found ≡ length (near_distances a) = f ∙ distances_long a in
        let ei : ids' ≡ near_ids a ++ drop (length (near_ids a)) ids = qi ∙ after_new none ids _ in
        let ed : distances' ≡ near_distances a ++ drop (length (near_distances a)) distances = qd ∙ after_new none distances _ in
        let et : trail' ≡ (searched a).trail ++ drop (length (searched a).trail) trail = qt ∙ after_new none trail _ in
        let fi : take found ids' ≡ near_ids a = front found (near_ids a) ids ids' f ei in
        let fs : take found distances' ≡ near_distances a = front found (near_distances a) distances distances' fd ed in
        let ft : take walked trail' ≡ (searched a).trail = front walked (searched a).trail trail trail' w et in
        let line : Counts → List ℕ = λ x. three_lines i x.found x.seen x.walked (near_ids a) (near_distances a) (searched a).trail in
        record {
          ids_room = front_room found (near_ids a) ids ids' f ei;
          distances_room = front_room found (near_distances a) distances distances' fd ed;
          trail_room = front_room walked (searched a).trail trail trail' w et;
          lines_are = lines_zero (sym (buffers li ld lt) ∙ none) ∙ ap line counted ∙ sym (rw (fi, fs, ft));
        }

  -- the lines of an answered ask, whose number the code has by another name
  pub answered_lines :
      {found seen walked : ℕ} {ids distances trail : List ℕ} (j : ℕ) → j ≡ i → Answered found seen walked ids distances trail →
      three_lines j found seen walked (take found ids) (take found distances) (take walked trail) ≡ lines_of i a
  answered_lines j e h = rw e (sym h.lines_are)
