-- The list of the ids that may not be seen yet: at first, when a point goes on the trail, and when one is reached. Assumes nothing.
use Prim.Native.Nat.{ℕ, ◌-◌, ◌≤◌, ◌<◌}
use native.Mathlib.Omega.{arith}
use mathlib.Core.Path.{◌≡◌, refl, sym, ap, ◌∙◌}
use mathlib.Core.Logic.{⊎_elim, ∥∥₁_map}
use mathlib.Core.Bool.{Bool, true, false}
use mathlib.Core.List.{List}
use lib.Dec.{eqb}
use lib.ListN.{length, get_or, set, length-set}
use lib.Seq.{get_or-set_same, get_or-set_other}
use borrow.Author.Tests.{eqb-true, eqb-false}
use Rattle.laws.proofs.Tests.{both, never}
use Rattle.search.specs.declared.see.Mark.{Mark}
use Rattle.search.specs.declared.see.Mark.TheVariants.{Unseen, Waiting}
use Rattle.search.specs.Line.{sees, is_seen}
use Rattle.search.specs.Rest.{Numbered, Rest, reached}
use Rattle.search.proofs.Marks.{sees-same}

-- ---- at first

pub rest-start : {n : ℕ} {rest : List ℕ} → Numbered 128 rest → n ≤ 128 → (marks : List Mark) → Rest n marks rest n
rest-start {n} h small marks = record {
  size = h.size;
  few = small;
  below = λ j l. rw (h.each j (omega arith)) l;
  listed = λ y l z. ∣ (y, l, h.each y (omega arith)) ∣₁;
}

-- ---- an id is marked as seen: the others that are not seen are still listed

pub rest_mark : {n left : ℕ} {marks : List Mark} {rest : List ℕ} → Rest n marks rest left → (x : ℕ) (m : Mark) → x < length marks → is_seen m ≡ true →
    Rest n (set marks x m) rest left
rest_mark {n} {left} {marks} {rest} h x m there seen = record {
  size = h.size;
  few = h.few;
  below = h.below;
  listed = λ y l z.
      ⊎_elim
      (λ e. let s = eqb-true y x e in absurd (never (sees-same marks x m there ∙ seen) (ap is_seen (rw s at z))))
      (λ e. h.listed y l (sym (get_or-set_other marks x y m Unseen (eqb-false y x e)) ∙ z))
      (both (eqb y x));
}

-- ---- the id at place i is reached

pub reached_new : (id : ℕ) (marks : List Mark) → get_or marks id Unseen ≡ Unseen → set marks id Waiting ≡ reached id marks
reached_new id marks z = let e : sees marks id ≡ false = ap is_seen z in rw e

-- it is seen, and leaves the list
pub rest_leave : {n left i : ℕ} {marks : List Mark} {rest : List ℕ} → Rest n marks rest left → i < left →
    (get_or marks (get_or rest i 0) Unseen ≡ Unseen → ⊥) → Rest n marks (set rest i (get_or rest (left - 1) 0)) (left - 1)
rest_leave {n} {left} {i} {marks} {rest} h l seen = record {
  size = length-set rest i (get_or rest (left - 1) 0) ∙ h.size;
  few = omega (arith, h.few);
  below = λ j k. ⊎_elim (λ s. rw (eqb-true j i s, moved) (h.below (left - 1) (omega arith))) (λ s. rw (other j (eqb-false j i s)) (h.below j (omega arith))) (both (eqb j i));
  listed = λ y ly z. ∥∥₁_map (h.listed y ly z) (λ g. place y (λ e. seen (rw e at z)) g.0 g.1 g.2);
}
  where
    moved : get_or (set rest i (get_or rest (left - 1) 0)) i 0 ≡ get_or rest (left - 1) 0
    moved = get_or-set_same rest i (get_or rest (left - 1) 0) 0 (omega (arith, h.size, h.few))

    other : (j : ℕ) → (j ≡ i → ⊥) → get_or (set rest i (get_or rest (left - 1) 0)) j 0 ≡ get_or rest j 0
    other j d = get_or-set_other rest i j (get_or rest (left - 1) 0) 0 d

    place : (y : ℕ) → (y ≡ get_or rest i 0 → ⊥) → (j : ℕ) → j < left → get_or rest j 0 ≡ y →
        (k : ℕ) × (k < left - 1) × (get_or (set rest i (get_or rest (left - 1) 0)) k 0 ≡ y)
    place y d j k s =
        ⊎_elim
        (λ t. absurd (d (sym s ∙ (rw (eqb-true j i t)))))
        (λ t.
        ⊎_elim
        (λ u. let w = eqb-true j (left - 1) u in (i, below_last j (eqb-false j i t) w, moved ∙ (rw w at s)))
        (λ u. (j, omega (arith, eqb-false j (left - 1) u), other j (eqb-false j i t) ∙ s))
        (both (eqb j (left - 1))))
        (both (eqb j i))
      where
        below_last : (j : ℕ) → (j ≡ i → ⊥) → j ≡ left - 1 → i < left - 1
        below_last j d w = omega (arith, d)

pub reached_marked : (id : ℕ) (marks : List Mark) → id < length marks → get_or (reached id marks) id Unseen ≡ Unseen → ⊥
reached_marked id marks there z = by (sees marks id) refl
  where
    by : (b : Bool) → sees marks id ≡ b → ⊥
    by true t = let e : get_or marks id Unseen ≡ Unseen = rw t at z in never t (ap is_seen e)
    by false f = let e : get_or (set marks id Waiting) id Unseen ≡ Unseen = rw f at z in never (sees-same marks id Waiting there) (ap is_seen e)
