-- A row followed by the list of the ids that may not be seen yet. Assumes nothing.
use Prim.Native.Nat.{ℕ, ◌+◌, ◌≤◌, ◌<◌}
use native.Mathlib.Nat.{lt_irrefl}
use native.Mathlib.Omega.{arith}
use mathlib.Core.Path.{◌≡◌, refl, sym, ◌∙◌}
use mathlib.Core.Logic.{◌⊎◌, inl, inr, ⊎_elim, ∥∥₁_elim}
use mathlib.Core.Bool.{Bool, true, false}
use mathlib.Core.List.{List}
use lib.Dec.{eqb}
use lib.ListN.{length, get_or, set, length-set}
use lib.Seq.{get_or-set_same, get_or-set_other}
use borrow.Author.Tests.{eqb-true, eqb-false, le-leb, lt-leb}
use Rattle.laws.proofs.Tests.{both, le_or_lt, and_false}
use Rattle.search.specs.declared.see.Mark.{Mark}
use Rattle.search.specs.declared.see.Mark.TheVariants.{Unseen, Waiting}
use Rattle.search.specs.Line.{sees}
use Rattle.search.specs.Rest.{Rest, Reached}
use Rattle.search.specs.Seen.{marked_at, Marked}
use Rattle.search.proofs.Marks.{unseen_is}

-- each mark is as it was, or that of an id that was not seen and has an edge
abbrev IsFollowed : List ℕ → ℕ → List Mark → List Mark → ℕ → Type 0
IsFollowed row m old new y =
    (get_or new y Unseen ≡ get_or old y Unseen) ⊎ ((get_or old y Unseen ≡ Unseen) × (get_or row y 0 ≤ m) × (get_or new y Unseen ≡ Waiting))

-- where the cells of the first i ids of the list are above the threshold
pub record Following (row : List ℕ) (m : ℕ) (old new : List Mark) (rest : List ℕ) (i left : ℕ) : Type 0 where
  pub size : length new ≡ length old
  pub each : (y : ℕ) → IsFollowed row m old new y
  pub passed : (j : ℕ) → j < i → m < get_or row (get_or rest j 0) 0
  pub in_list : i ≤ left

pub following_start : (row : List ℕ) (m : ℕ) (marks : List Mark) (rest : List ℕ) (left : ℕ) → Following row m marks marks rest 0 left
following_start row m marks rest left = record { size = refl; each = λ y. inl refl; passed = λ j l. absurd (lt_irrefl j (omega arith)); in_list = omega arith }

module _ {m i left : ℕ} {row : List ℕ} {old new : List Mark} {rest : List ℕ} (h : Following row m old new rest i left) where
  -- the cell of the next id is above the threshold
  pub following_pass : i < left → m < get_or row (get_or rest i 0) 0 → Following row m old new rest (i + 1) left
  following_pass l far = record {
    size = h.size;
    each = h.each;
    passed = λ j k. ⊎_elim (λ e. rw (eqb-true j i e) far) (λ e. h.passed j (less j k (eqb-false j i e))) (both (eqb j i));
    in_list = omega arith;
  }
    where
      less : (j : ℕ) → j < i + 1 → (j ≡ i → ⊥) → j < i
      less j k d = omega (arith, d)

  -- the next id is reached
  pub following_reach : i < left → get_or row (get_or rest i 0) 0 ≤ m → get_or rest i 0 < length new →
      {new' : List Mark} {rest' : List ℕ} {left' : ℕ} → Reached new rest i left new' rest' left' → Following row m old new' rest' i left'
  following_reach l near there {new'} {rest'} {left'} r = record {
    size = kept (sees new (get_or rest i 0)) refl ∙ h.size;
    each = λ y. by y (sees new (get_or rest i 0)) refl;
    passed = λ j k. rw (r.moved, get_or-set_other rest i j (get_or rest left' 0) 0 (λ e. lt_irrefl i (omega (arith, e)))) (h.passed j k);
    in_list = omega (arith, r.less);
  }
    where
      kept : (b : Bool) → sees new (get_or rest i 0) ≡ b → length new' ≡ length new
      kept false f = rw (r.mark, f) (length-set new (get_or rest i 0) Waiting)
      kept true t = rw (r.mark, t)

      by : (y : ℕ) (b : Bool) → sees new (get_or rest i 0) ≡ b → IsFollowed row m old new' y
      by y false f =
          let is : new' ≡ set new (get_or rest i 0) Waiting = r.mark ∙ rw f in
          ⊎_elim
          (λ e.
          let s = eqb-true y (get_or rest i 0) e in
          let zero : get_or new y Unseen ≡ Unseen = rw s (unseen_is _ f) in
          inr (was y zero (h.each y), rw s near, rw (is, s) (get_or-set_same new (get_or rest i 0) Waiting Unseen there)))
          (λ e. rw (is, get_or-set_other new (get_or rest i 0) y Waiting Unseen (eqb-false y (get_or rest i 0) e)) (h.each y))
          (both (eqb y (get_or rest i 0)))
        where
          was : (y : ℕ) → get_or new y Unseen ≡ Unseen → IsFollowed row m old new y → get_or old y Unseen ≡ Unseen
          was y z = ⊎_elim (λ e. sym e ∙ z) (λ e. e.0)
      by y true t = let is : new' ≡ new = r.mark ∙ rw t in rw is (h.each y)

-- at the list's end every edge of the row is followed
pub following_end : {n m i left : ℕ} {row : List ℕ} {old new : List Mark} {rest : List ℕ} → Following row m old new rest i left → left ≤ i → Rest n new rest left → Marked n row m old new
following_end {n} {m} {i} {left} {row} {old} {new} {rest} h end list = record { size = h.size; each = λ y k. ⊎_elim (λ e. same y k e (sees old y) refl) (λ e. new_one y e) (h.each y) }
  where
    new_one : (y : ℕ) → (get_or old y Unseen ≡ Unseen) × (get_or row y 0 ≤ m) × (get_or new y Unseen ≡ Waiting) → get_or new y Unseen ≡ marked_at row m old y
    new_one y e = e.2 ∙ rw (e.0, le-leb (get_or row y 0) m e.1)

    missed : (y : ℕ) → y < n → get_or new y Unseen ≡ Unseen → get_or row y 0 ≤ m → ⊥
    missed y k z near =
        ∥∥₁_elim (list.listed y k z) (λ x _. absurd x) λ g.
        let far : m < get_or row (get_or rest g.0 0) 0 = h.passed g.0 (omega (arith, g.1)) in
        lt_irrefl m (omega (arith, near, rw g.2 at far))

    same : (y : ℕ) → y < n → get_or new y Unseen ≡ get_or old y Unseen → (b : Bool) → sees old y ≡ b → get_or new y Unseen ≡ marked_at row m old y
    same y k e true t = e ∙ rw t
    same y k e false f =
        ⊎_elim
        (λ (near : get_or row y 0 ≤ m). absurd (missed y k (e ∙ unseen_is _ f) near))
        (λ (far : m < get_or row y 0). e ∙ rw (lt-leb (get_or row y 0) m far, and_false true, f))
        (le_or_lt (get_or row y 0) m)
