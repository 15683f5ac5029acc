-- Least keys: of a list, of the ids that pass, and how the cell of an edge follows from the least distance of a point that leads. Assumes nothing.
use Prim.Native.Nat.{ℕ, zero, suc, ◌≤◌, ◌<◌, min}
use mathlib.Core.Path.{◌≡◌, refl, sym, ap, ◌∙◌}
use mathlib.Core.Logic.{◌≢◌, ◌⊎◌, inl, inr, ⊎_elim}
use mathlib.Core.Bool.{Bool, true, false, cond}
use mathlib.Core.List.{List, [], ◌∷◌}
use native.Mathlib.Nat.{not-suc-le-zero, lt_irrefl}
use native.Mathlib.Omega.{arith}
use lib.Dec.{leb, eqb}
use lib.ListN.{length, get_or}
use Rattle.std.specs.Prelude.{fold}
use borrow.Author.Tests.{leb-true, leb-false, eqb-true, eqb-false}
use Rattle.rules.specs.Edges.{direct}
use Rattle.rules.specs.Labels.{leads, label, label_of, cell}
use Rattle.laws.proofs.Tests.{both, never, le_or_lt}
use Rattle.laws.proofs.Order.{first-none, first_some, first_cases}
use Rattle.laws.proofs.Edges.{between_is, direct_rule}
use Rattle.laws.proofs.Table.{cell-direct, cell-label, label-some, leads-is}
use Rattle.table.specs.Kept.{Mutual}
use Rattle.table.specs.Rows.{top, lowest, Least, cell_by}

-- ---- of a list

-- begun with any number
fold-at_most : (l : List ℕ) (a : ℕ) → fold min a l ≤ a
fold-at_most [] a = omega arith
fold-at_most (x ∷ xs) a = omega (arith, fold-at_most xs (min a x))

fold-under : (l : List ℕ) (a i : ℕ) → i < length l → fold min a l ≤ get_or l i 0
fold-under [] a i h = absurd (not-suc-le-zero h)
fold-under (x ∷ xs) a zero h = omega (arith, fold-at_most xs (min a x))
fold-under (x ∷ xs) a (suc i) h = fold-under xs (min a x) i (omega arith)

fold-met : (l : List ℕ) (a : ℕ) → (fold min a l ≡ a) ⊎ ((i : ℕ) × (i < length l) × (fold min a l ≡ get_or l i 0))
fold-met [] a = inl refl
fold-met (x ∷ xs) a =
    ⊎_elim
    (λ e. ⊎_elim (λ h. inl (omega (arith, e))) (λ h. inr (0, omega arith, omega (arith, e))) (le_or_lt a x))
    (λ f. inr (suc f.0, omega (arith, f.1), f.2))
    (fold-met xs (min a x))

pub lowest-under : (l : List ℕ) (i : ℕ) → i < length l → lowest l ≤ get_or l i 0
lowest-under l i h = fold-under l top i h

pub lowest-met : (l : List ℕ) → (lowest l ≡ top) ⊎ ((i : ℕ) × (i < length l) × (lowest l ≡ get_or l i 0))
lowest-met l = fold-met l top

-- ---- of the ids that pass

-- v comes to pass, or not, and the others are as they were
pub least-add : {key : ℕ → ℕ} {n m v : ℕ} {p q : ℕ → Bool} (b : Bool) → Least key n p m → v < n → p v ≡ false → q v ≡ b →
    ((w : ℕ) → w < n → w ≢ v → q w ≡ p w) → Least key n q (cond b (min (key v) m) m)
least-add {key} {n} {m} {v} {p} {q} b least l f e same = go b e
  where
    old : (k : ℕ) → k ≡ m → (k ≡ top) ⊎ ((w : ℕ) × (w < n) × (q w ≡ true) × (k ≡ key w))
    old k s =
        ⊎_elim
        (λ t. inl (s ∙ t))
        (λ g. inr (g.0, g.1, same g.0 g.1 (λ h. never g.2 (rw h f)) ∙ g.2, s ∙ g.3))
        least.met

    others : (w : ℕ) → w < n → w ≢ v → q w ≡ true → m ≤ key w
    others w h d t = least.under w h (sym (same w h d) ∙ t)

    go : (b : Bool) → q v ≡ b → Least key n q (cond b (min (key v) m) m)
    go false g = record {
      under = λ w h t. others w h (λ s. never t (rw s g)) t;
      met = old m refl;
    }
    go true g = record {
      under = λ w h t. ⊎_elim (λ s. rw (eqb-true w v s) (omega arith)) (λ s. omega (arith, others w h (eqb-false w v s) t)) (both (eqb w v));
      met = ⊎_elim (λ h. inr (v, l, g, omega arith)) (λ h. old (min (key v) m) (omega arith)) (le_or_lt (key v) m);
    }

-- ---- the cell by the least distance

module _ {δ : ℕ → ℕ → ℕ} {n u v m : ℕ} (kept : Mutual δ n) (lu : u < n) (lv : v < n) (d : u ≢ v) (least : Least (λ w. δ w v) n (leads δ n u v) m) where
  -- a leading point that is nearer to v than u is stands between, with a direct edge
  hidden : (w : ℕ) → w < n → leads δ n u v w ≡ true → δ w v < δ u v → direct δ n u v ≡ false
  hidden w lw e h =
      let f = (leads-is δ n u v w).0 e in
      ⊎_elim
      (λ t. absurd ((direct_rule δ n u v lu lv d).0 t w lw ((between_is δ u v w).1 (f.2, omega (arith, kept.symm v w lv lw))) f.1))
      (λ f. f)
      (both (direct δ n u v))

  -- what stands between with a direct edge leads, and is nearer to v
  clear : δ u v ≤ m → direct δ n u v ≡ true
  clear h =
      (direct_rule δ n u v lu lv d).1 λ r lr b k.
      let near = (between_is δ u v r).0 b in
      let other : u ≢ r = λ e. lt_irrefl (δ u v) (omega (arith, near.1, kept.symm u v lu lv, ap (δ v) e)) in
      lt_irrefl (δ u v) (omega (arith, near.1, least.under r lr ((leads-is δ n u v r).1 (other, k, near.0)), kept.symm v r lv lr))

  -- direct exactly if no leading point is nearer to v
  pub direct-by : direct δ n u v ≡ leb (δ u v) m
  direct-by =
      ⊎_elim
      (λ t. clear (leb-true (δ u v) m t) ∙ sym t)
      (λ f.
      let h = leb-false (δ u v) m f in
      ⊎_elim
      (λ t. absurd (lt_irrefl (δ u v) (omega (arith, kept.small u v lu lv))))
      (λ g. hidden g.0 g.1 g.2 (omega (arith, g.3)) ∙ sym f)
      least.met)
      (both (leb (δ u v) m))

  pub cell_by_lem : cell δ n u v ≡ cell_by (δ u v) m
  unfolding cell_by
  cell_by_lem =
      ⊎_elim
      (λ t. cell-direct δ n u v d (direct-by ∙ t) ∙ rw t)
      (λ f. cell-label δ n u v d (direct-by ∙ f) ∙ label-by (leb-false (δ u v) m f) ∙ rw f)
      (both (leb (δ u v) m))
    where
      label-by : m < δ u v → label δ n u v ≡ label_of (δ u v) m
      label-by h =
          ⊎_elim
          (λ t. absurd (lt_irrefl (δ u v) (omega (arith, kept.small u v lu lv))))
          (λ g.
          ⊎_elim
          (λ z. absurd (first-none (λ w. δ w v) n (leads δ n u v) z g.0 g.1 g.2))
          (λ f.
          let l = first_some (λ w. δ w v) n (leads δ n u v) f.1 in
          let e : δ f.0 v ≡ m = omega (arith, l.2 g.0 g.1 g.2, least.under f.0 l.0 l.1, g.3) in
          label-some δ n u v f.1 ∙ ap (label_of (δ u v)) e)
          (first_cases (λ w. δ w v) n (leads δ n u v)))
          least.met
