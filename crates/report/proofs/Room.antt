-- How long the lines of a sheet can be: the page has room for them. Assumes nothing.
use Prim.Native.Nat.{ℕ, zero, suc, ◌*◌, ◌≤◌, ◌<◌}
use native.Mathlib.Omega.{arith}
use mathlib.Core.Path.{◌≡◌, refl, ◌∙◌}
use mathlib.Core.Bool.{Bool, true, false, cond, ◌||◌}
use mathlib.Core.List.{List, map}
use lib.Dec.{ltb, leb, eqb}
use lib.ListN.{length, length-append}
use Rattle.rules.specs.Points.{apart}
use Rattle.rules.specs.Order.{on}
use Rattle.rules.specs.Labels.{table_of}
use Rattle.rules.specs.Search.{search, answer}
use Rattle.rules.specs.Sheet.{sheet_length, filling, points, coords, width, ask_count, vectors_of}
use Rattle.rules.specs.Refusals.{outside, differ, search_refusal, sheet_refusal}
use Rattle.rules.specs.Entries.{Ask, farness, order_of, edges_of, searched, near_ids, near_distances, counts_of, asked_refusal}
use Rattle.rules.specs.Lines.{set_line, found_line, ask_refused_line, near_line, trail_line, refused_line}
use Rattle.rules.specs.Program.{ask_of, lines_of, asks_lines, printed}
use Rattle.laws.proofs.Tests.{count_le}
use Rattle.laws.proofs.Fields.{points-small, coords-small}
use Rattle.laws.proofs.Keyed.{keyed_ordered}
use Rattle.laws.proofs.Nearest.{firsts-nearest}
use Rattle.laws.proofs.Search.{run_sound}
use Rattle.search.proofs.Finish.{search_ok}
use Rattle.std.specs.Prelude.{Err}
use Rattle.lines.specs.Placing.{too_short, three_lines}
use Rattle.lines.proofs.Ends.{past}
use Rattle.lines.proofs.Lengths.{set-length, refused-length, ask-refused-length, found-length, near_length, trail-length, three-length}
use Rattle.report.specs.Pages.{Paged}
use Rattle.report.proofs.Asked.{same_refusal}
use Rattle.report.proofs.Sheets.{asks-few}
use Rattle.report.proofs.Printed.{printed-set, printed-refused}
use Rattle.report.proofs.Bounds.{part-short, parts_most, pairs_most, far_most}

-- ---- an ask

cond_most : (t : Bool) (x y m : ℕ) → x ≤ m → y ≤ m → cond t x y ≤ m
cond_most true x y m h k = h
cond_most false x y m h k = k

refusal_most : (a : Ask) → asked_refusal a a.k a.k a.n ≤ 10
unfolding asked_refusal search_refusal
refusal_most a =
    cond_most (outside 1 128 a.n) 1 _ 10 (omega arith)
    (cond_most (outside 1 64 a.d) 2 _ 10 (omega arith)
    (cond_most (differ (length a.vectors) (a.n * a.d)) 3 _ 10 (omega arith)
    (cond_most (differ (length a.table) (a.n * a.n)) 4 _ 10 (omega arith)
    (cond_most (differ (length a.query) a.d) 5 _ 10 (omega arith)
    (cond_most (leb a.n a.start) 6 _ 10 (omega arith)
    (cond_most (outside 1 128 a.width) 7 _ 10 (omega arith)
    (cond_most (outside 1 a.width a.k) 8 _ 10 (omega arith)
    (cond_most (ltb 32767 a.threshold) 9 _ 10 (omega arith)
    (cond_most (ltb a.k a.k || (ltb a.k a.k || ltb a.n a.n)) 10 0 10 (omega arith) (omega arith))))))))))

refused_most : (i r : ℕ) → i < 1000 → r < 1000 → length (ask_refused_line i r) ≤ 2100
refused_most i r h k = omega (arith, ask-refused-length i r, part-short i h, part-short r k)

found_most : (i f s w : ℕ) → i < 1000 → f < 1000 → s < 1000 → w < 1000 → length (found_line i f s w) ≤ 38
found_most i f s w hi hf hs hw = omega (arith, found-length i f s w, part-short i hi, part-short f hf, part-short s hs, part-short w hw)

near_most :
    (f : ℕ → ℕ) → ((y : ℕ) → f y < 10000000) → (l : List ℕ) → ((y : ℕ) → on l y ≡ true → y < 1000) → length l ≤ 128 →
    length (near_line l (map f l)) ≤ 1541
near_most f near l h k = omega (arith, near_length l (map f l), pairs_most f near l h)

trail_most : (l : List ℕ) → ((y : ℕ) → on l y ≡ true → y < 1000) → length l ≤ 128 → length (trail_line l) ≤ 518
trail_most l h k = omega (arith, trail-length l, parts_most l h)

-- what a search that is not refused finds, sees and walks is few
record Few (a : Ask) : Type 0 where
  near_few : length (near_ids a) ≤ 128
  near_small : (y : ℕ) → on (near_ids a) y ≡ true → y < 1000
  seen_few : (counts_of a).seen ≤ 128
  trail-few : length (searched a).trail ≤ 128
  trail-small : (y : ℕ) → on (searched a).trail y ≡ true → y < 1000

few : (a : Ask) → asked_refusal a a.k a.k a.n ≡ 0 → Few a
unfolding asked_refusal near_ids searched answer search order_of counts_of
few a e =
    let ok = search_ok a.n a.d (length a.vectors) (length a.table) (length a.query) a.start a.threshold a.width a.k
    128
    128
    128
    (same_refusal a ∙ e) in
    let near = firsts-nearest (order_of a) a.n (keyed_ordered (farness a) a.n ok.starts.asked.few-points) a.k (searched a).seen in
    let sound = run_sound a.n (order_of a) (edges_of a) a.width a.n (eqb a.start) in
    record {
      near_few = omega (arith, near.many, ok.rooms.ids_room);
      near_small = λ y o. omega (arith, (near.each y o).0, ok.starts.asked.few-points);
      seen_few = omega (arith, count_le a.n (searched a).seen, ok.starts.asked.few-points);
      trail-few = omega (arith, sound.1, count_le a.n (on (searched a).trail), ok.starts.asked.few-points);
      trail-small = λ y o. omega (arith, (sound.0 y o).0, ok.starts.asked.few-points);
    }

module _ (i : ℕ) (a : Ask) (h : i < 1000) (near : (y : ℕ) → farness a y < 10000000) where
  answered_most :
      Few a →
      length (three_lines i (counts_of a).found (counts_of a).seen (counts_of a).walked (near_ids a) (near_distances a) (searched a).trail) ≤ 2100
  unfolding counts_of near_distances
  answered_most x =
      let counts = counts_of a in
      let n = near_most (farness a) near (near_ids a) x.near_small x.near_few in
      let t = trail_most (searched a).trail x.trail-small x.trail-few in
      let f = found_most i counts.found counts.seen counts.walked h
      (omega (arith, x.near_few))
      (omega (arith, x.seen_few))
      (omega (arith, x.trail-few)) in
      omega (arith, three-length i counts.found counts.seen counts.walked (near_ids a) (near_distances a) (searched a).trail)

  lines_by : (r : ℕ) → asked_refusal a a.k a.k a.n ≡ r → r ≤ 10 → length (lines_of i a) ≤ 2100
  unfolding lines_of three_lines
  lines_by zero e l = rw (lines_of, e) (answered_most (few a e))
  lines_by (suc r) e l = rw (lines_of, e) (refused_most i (suc r) h (omega arith))

  lines_most : length (lines_of i a) ≤ 2100
  lines_most = lines_by (asked_refusal a a.k a.k a.n) refl (refusal_most a)

-- ---- a sheet

asks_most : (ys table : List ℕ) (asks : ℕ) → asks ≤ 1000 → length (asks_lines ys table asks) ≤ 2100 * asks
unfolding asks_lines
asks_most ys table zero l = omega arith
asks_most ys table (suc i) l =
    omega (
      arith,
      length-append (asks_lines ys table i) (lines_of i (ask_of ys table i)),
      asks_most ys table i (omega arith),
      lines_most i (ask_of ys table i) (omega arith) (far_most ys table i),
    )

set_most : (n d asks : ℕ) → n < 1000 → d < 1000 → asks < 1000 → length (set_line n d asks) ≤ 16
set_most n d asks hn hd ha = omega (arith, set-length n d asks, part-short n hn, part-short d hd, part-short asks ha)

refused_line_most : (r : ℕ) → r < 1000 → length (refused_line r) ≤ 12
refused_line_most r h = omega (arith, refused-length r, part-short r h)

sheet_refusal_most : (ys : List ℕ) → sheet_refusal ys ≤ 16
unfolding sheet_refusal
sheet_refusal_most ys =
    let needed = sheet_length (points ys) (coords ys) (width ys) (ask_count ys) in
    cond_most (ltb (length ys) 3) 15 _ 16 (omega arith)
    (cond_most (ltb 127 (ask_count ys)) 12 _ 16 (omega arith)
    (cond_most (ltb (length ys) needed) 15 _ 16 (omega arith)
    (cond_most (ltb needed (length ys)) 16 _ 16 (omega arith)
    (cond_most (ltb 0 (filling ys)) 16 0 16 (omega arith) (omega arith)))))

printed-by : (ys : List ℕ) (r : ℕ) → sheet_refusal ys ≡ r → r ≤ 16 → length (printed ys) ≤ 270000
printed-by ys zero e l =
    let table = table_of (apart (coords ys) (vectors_of ys)) (points ys) in
    let few = asks-few ys e in
    let s = set_most (points ys) (coords ys) (ask_count ys) (omega (arith, points-small ys)) (omega (arith, coords-small ys)) (omega arith) in
    let a = asks_most ys table (ask_count ys) (omega arith) in
    rw (printed-set ys e) (simp length-append (omega arith))
printed-by ys (suc r) e l =
    let m = refused_line_most (suc r) (omega arith) in
    rw (printed-refused ys r e) (omega arith)

-- no sheet's lines are longer than the page
pub printed_most : (ys : List ℕ) → length (printed ys) ≤ 270000
printed_most ys = printed-by ys (sheet_refusal ys) refl (sheet_refusal_most ys)

pub never_short : (ys : List ℕ) {old new : List ℕ} → length old ≡ 270000 → Paged 0 (printed ys) old new (Err too_short) → ⊥
never_short ys {old} l x = omega (arith, past 0 (length (printed ys)) (length old) x.answers, printed_most ys)
