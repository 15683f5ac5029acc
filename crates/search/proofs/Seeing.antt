-- A point becomes seen: its mark and its key in the line. Assumes nothing.
use Prim.Native.Nat.{ℕ, ◌-◌, ◌%◌, ◌≤◌, ◌<◌, min}
use native.Mathlib.Nat.{eq-or-lt_of_le}
use native.Mathlib.Omega.{arith}
use mathlib.Core.Path.{◌≡◌, sym, ap, ◌∙◌}
use mathlib.Core.Logic.{⊎_elim}
use mathlib.Core.Bool.{true, false}
use mathlib.Core.List.{List, ◌∷◌, ◌++◌, map}
use lib.Dec.{eqb}
use lib.ListN.{length, get_or, take, drop, set, length-set, length-map, length-append, length-take, length-drop, get_or-append}
use lib.Seq.{get_or-take}
use borrow.Author.Tests.{eqb-true, eqb-false}
use Rattle.rules.specs.Order.{keyed, count, firsts, Ordered}
use Rattle.laws.specs.Line.{adding, Place}
use Rattle.laws.proofs.Tests.{both, never, count_lt}
use Rattle.laws.proofs.Order.{firsts_same}
use Rattle.laws.proofs.Keyed.{keyed_ordered, keyed_id}
use Rattle.laws.proofs.Line.{Whole, get_d_map, listed, whole_rising, line_whole, line_length, line_insert}
use Rattle.laws.proofs.Refusals.{set_ok}
use Rattle.space.specs.declared.question.Asked.{Asked}
use Rattle.search.specs.declared.see.Mark.{Mark}
use Rattle.search.specs.declared.see.Mark.TheVariants.{Unseen, Waiting}
use Rattle.search.specs.Line.{sees, is_seen, Slot}
use Rattle.search.specs.Seen.{Lined}
use Rattle.search.proofs.Marks.{sees-same, sees-other, waits-other}
use Rattle.search.proofs.Places.{Entered}

-- a question that is not refused is of a small set
pub few : (a : Asked) → a.points.set.n ≤ 128
few a = (set_ok _ _ _ a.points.given).few-points

module _ (n : ℕ) (D : ℕ → ℕ) (small : n ≤ 128) where
  ordered : Ordered n (keyed D)
  ordered = keyed_ordered D n small

  -- the seen ids in order
  abbrev pub in_line : List Mark → List ℕ
  in_line marks = firsts (keyed D) n n (sees marks)

  module _ {marks : List Mark} {line : List ℕ} {from : ℕ} (h : Lined n (keyed D) marks line from) where
    whole : Whole (keyed D) n (sees marks) (in_line marks)
    whole = line_whole (keyed D) n ordered (sees marks)

    pub line_size : length (in_line marks) ≡ length line
    line_size = sym (ap length h.keys ∙ length-map (in_line marks) (keyed D))

    -- as many are on the line as are seen
    pub many : length line ≡ count n (sees marks)
    many = sym line_size ∙ line_length (keyed D) n ordered (sees marks)

    -- what stands at a place of the line: the key of an id that is seen
    pub line_key : (i : ℕ) → i < length line → get_or line i 0 ≡ keyed D (get_or (in_line marks) i 0)
    line_key i l = ap (λ (t : List ℕ). get_or t i 0) h.keys ∙ get_d_map (keyed D) (in_line marks) i (omega (arith, line_size))

    pub line_seen : (i : ℕ) → i < length line → (get_or (in_line marks) i 0 < n) × (sees marks (get_or (in_line marks) i 0) ≡ true)
    line_seen i l = listed (keyed D) n ordered (in_line marks) (sees marks) whole i (omega (arith, line_size))

    pub line_id : (i : ℕ) → i < length line → get_or line i 0 % 128 ≡ get_or (in_line marks) i 0
    line_id i l = ap (λ (k : ℕ). k % 128) (line_key i l) ∙ keyed_id D (get_or (in_line marks) i 0) (omega (arith, (line_seen i l).0))

    -- an id of the set has a mark
    mark-there : {id : ℕ} → id < n → id < length marks
    mark-there l = omega (arith, h.marks_size, small)

    -- ---- one more id

    module _ (id : ℕ) (lid : id < n) (fresh : get_or marks id Unseen ≡ Unseen) where
      there : id < length marks
      there = mark-there lid

      sees_old : sees marks id ≡ false
      sees_old = ap is_seen fresh

      sees_new : sees (set marks id Waiting) id ≡ true
      sees_new = sees-same marks id Waiting there

      -- there is room in the line for it
      pub line_room : length line < n
      line_room = omega (arith, many, count_lt n (sees marks) id lid sees_old)

      -- an id that is seen is another one
      another : (y : ℕ) → sees marks y ≡ true → y ≡ id → ⊥
      another y t e = never (rw e at t) sees_old

      added : (y : ℕ) → adding id (sees marks) y ≡ sees (set marks id Waiting) y
      unfolding adding
      added y =
          ⊎_elim
          (λ e. let q = eqb-true id y e in rw (e, ← q, sees_new))
          (λ e. rw e (sym (sees-other marks id Waiting y (λ s. eqb-false id y e (sym s)))))
          (both (eqb id y))

      -- the key's place in the line is its place among the keys of the seen ids
      place : {r : ℕ} → Slot line (length line) (keyed D id) r → Place (keyed D id) line r
      place {r} s = record { within = s.within; larger = s.larger; not-larger = λ i a. low i a }
        where
          prev : (i : ℕ) → i < r → i ≤ r - 1
          prev i l = omega arith

          low : (i : ℕ) → i < r → get_or line i 0 ≤ keyed D id
          low i a =
              let lj : r - 1 < length line = omega (arith, s.within) in
              let top : get_or line (r - 1) 0 ≤ keyed D id = s.not-larger (r - 1) (omega arith) in
              ⊎_elim
              (λ (q : i ≡ r - 1). rw q top)
              (λ (l : i < r - 1).
              let up = whole_rising (keyed D) n ordered (in_line marks) (sees marks) whole i (r - 1) l (omega (arith, line_size)) in
              rw (line_key i (omega arith)) (omega (arith, up, top, line_key (r - 1) lj)))
              (eq-or-lt_of_le (prev i a))

      pub see_lined : {line' : List ℕ} {r : ℕ} → Entered line (keyed D id) r line' → Lined n (keyed D) (set marks id Waiting) line' (min r from)
      see_lined {line'} {r} p = record {
        marks_size = length-set marks id Waiting ∙ h.marks_size;
        keys = p.keys
            ∙ ap (λ (t : List ℕ). take r t ++ (keyed D id ∷ drop r t)) h.keys
            ∙ sym (line_insert (keyed D) n ordered (sees marks) id lid sees_old r (rw h.keys at (place p.slot)))
            ∙ ap (map (keyed D)) (firsts_same (keyed D) n n (adding id (sees marks)) (sees (set marks id Waiting)) (λ y l. added y));
        from_in = omega (arith, h.from_in, longer);
        passed = λ i l.
            rw
            (kept i (omega arith) (inside i l))
            (waits-other marks id Waiting (get_or line i 0 % 128) (other i (inside i l)) ∙ h.passed i (omega arith));
      }
        where
          inside : (i : ℕ) → i < min r from → i < length line
          inside i l = omega (arith, h.from_in)

          longer : length line ≤ length line'
          longer =
              omega (arith, ap length p.keys, length-append (take r line) (keyed D id ∷ drop r line), length-take r line, length-drop r line, p.slot.within)

          kept : (i : ℕ) → i < r → i < length line → get_or line' i 0 ≡ get_or line i 0
          kept i a b =
              ap (λ (t : List ℕ). get_or t i 0) p.keys
              ∙ get_or-append (take r line) _ 0 i (omega (arith, length-take r line))
              ∙ get_or-take r line i 0 a

          other : (i : ℕ) → i < length line → get_or line i 0 % 128 ≡ id → ⊥
          other i l = another (get_or line i 0 % 128) (rw (line_id i l) (line_seen i l).1)
