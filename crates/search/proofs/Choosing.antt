-- The next visit, off the line: the point that waits first, and how many seen points come before it. Assumes nothing.
use Prim.Native.Nat.{ℕ, ◌%◌, ◌≤◌, ◌<◌}
use native.Mathlib.Omega.{arith}
use mathlib.Core.Path.{◌≡◌, ◌∙◌}
use mathlib.Core.Bool.{true, false, cond}
use mathlib.Core.Option.{none, some}
use mathlib.Core.List.{List}
use lib.ListN.{length, get_or}
use lib.Dec.{leb}
use borrow.Author.Tests.{lt-leb, le-leb}
use Rattle.rules.specs.Order.{keyed, first, Ordered}
use Rattle.rules.specs.Search.{before, choice}
use Rattle.laws.proofs.Keyed.{keyed_ordered}
use Rattle.laws.proofs.Line.{Whole, line_whole, place-before, first_on, none-on}
use Rattle.laws.proofs.Visits.{choice-none, choice-some}
use Rattle.search.specs.declared.see.Mark.{Mark}
use Rattle.search.specs.Line.{waits, sees}
use Rattle.search.specs.Seen.{Lined}
use Rattle.search.proofs.Seeing.{in_line, line_size, line_id}
use Rattle.search.proofs.Visiting.{waits-sees}

module _ (n : ℕ) (D : ℕ → ℕ) (small : n ≤ 128) where
  ordered : Ordered n (keyed D)
  ordered = keyed_ordered D n small

  module _ {marks : List Mark} {line : List ℕ} {from : ℕ} (h : Lined n (keyed D) marks line from) (width : ℕ) where
    abbrev ids : List ℕ
    ids = in_line n D small marks

    whole : Whole (keyed D) n (sees marks) ids
    whole = line_whole (keyed D) n ordered (sees marks)

    size : length ids ≡ length line
    size = line_size n D small h

    passed_id : (i : ℕ) → i < from → waits marks (get_or ids i 0) ≡ false
    passed_id i l = rw (← line_id n D small h i (omega (arith, h.from_in))) (h.passed i l)

    -- the point that waits at the place `from` is the first that waits, and `from` seen points come before it
    choice-at : from < length line → waits marks (get_or line from 0 % 128) ≡ true →
        choice n (keyed D) width (sees marks) (waits marks) ≡ cond (leb width from) none (some (get_or line from 0 % 128))
    choice-at l w =
        let x : ℕ = get_or ids from 0 in
        let e : get_or line from 0 % 128 ≡ x = line_id n D small h from l in
        let r : from < length ids = omega (arith, size) in
        let f : first (keyed D) n (waits marks) ≡ some x =
        first_on (keyed D) n ordered ids (sees marks) (waits marks) whole (λ y ly t. waits-sees marks y t) from r passed_id (rw e at w) in
        let b : before n (keyed D) (sees marks) x ≡ from = place-before (keyed D) n ordered ids (sees marks) whole from r in
        choice-some n (keyed D) width (sees marks) (waits marks) f ∙ rw (b, e)

    pub choice-visit : from < length line → from < width → waits marks (get_or line from 0 % 128) ≡ true →
        choice n (keyed D) width (sees marks) (waits marks) ≡ some (get_or line from 0 % 128)
    choice-visit l g w = choice-at l w ∙ rw (lt-leb width from g)

    pub choice_full : from < length line → width ≤ from → waits marks (get_or line from 0 % 128) ≡ true →
        choice n (keyed D) width (sees marks) (waits marks) ≡ none
    choice_full l g w = choice-at l w ∙ rw (le-leb width from g)

    pub choice-done : length line ≤ from → choice n (keyed D) width (sees marks) (waits marks) ≡ none
    choice-done l =
        choice-none n (keyed D) width (sees marks) (waits marks)
        (none-on (keyed D) n ordered ids (sees marks) (waits marks) whole
        (λ y ly t. waits-sees marks y t) (λ i k. passed_id i (omega (arith, size))))
