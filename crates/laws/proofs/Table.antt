-- The set's own table: its cells by row and column, that they depend on the distances between the ids alone, and its edges at a
-- threshold. Assumes nothing.
use Prim.Native.Nat.{ℕ, zero, suc, ◌+◌, ◌*◌, ◌/◌, ◌%◌, ◌<◌, zero-le}
use mathlib.Core.Path.{◌≡◌, refl, sym, ap, ap₂, ◌∙◌}
use mathlib.Core.Logic.{◌↔◌, ◌≢◌, ⊎_elim}
use mathlib.Core.Bool.{Bool, true, false, not, ◌&&◌}
use mathlib.Core.Option.{Option, none, some}
use mathlib.Core.List.{◌∷◌}
use native.Mathlib.Nat.{not-suc-le-zero, div-lt_iff_lt-mul, mod-lt}
use native.Mathlib.Omega.{arith}
use lib.Arith.{digits_lt, digits_div, digits_mod}
use lib.Dec.{leb, eqb}
use lib.ListN.{length, get_or}
use borrow.Author.Tests.{ltb-true, lt-ltb, eq-eqb, ne_eqb, eqb-false, not-true, le-leb}
use Rattle.rules.specs.Order.{pick, first}
use Rattle.rules.specs.Edges.{kept_in, between, direct, Closing, Symmetric}
use Rattle.rules.specs.Labels.{label_of, tabulate, leads, label, cell, table_of, edge_in}
use Rattle.laws.proofs.Tests.{and_l, and_r, and_i, any_same}
use Rattle.laws.proofs.Order.{first_some, first_cases, first_same}
use Rattle.laws.proofs.Edges.{direct_closing, closing_more}

-- ---- a list by its places

module _ {A : Type 0} where
  pub length-tabulate : (k : ℕ) (f : ℕ → A) → length (tabulate k f) ≡ k
  unfolding tabulate
  length-tabulate zero f = refl
  length-tabulate (suc k) f = ap suc (length-tabulate k (λ i. f (suc i)))

  pub get_d_tabulate : (k : ℕ) (f : ℕ → A) (i : ℕ) (d : A) → i < k → get_or (tabulate k f) i d ≡ f i
  unfolding tabulate
  get_d_tabulate zero f i d l = absurd (not-suc-le-zero l)
  get_d_tabulate (suc k) f zero d l = refl
  get_d_tabulate (suc k) f (suc i) d l = get_d_tabulate k (λ j. f (suc j)) i d (omega arith)

-- ---- the cells of the table

module _ (δ : ℕ → ℕ → ℕ) (n : ℕ) where
  pub table-length : length (table_of δ n) ≡ n * n
  unfolding table_of
  table-length = length-tabulate (n * n) (λ i. cell δ n (i / n) (i % n))

  pub table_at : (u v : ℕ) → u < n → v < n → get_or (table_of δ n) (u * n + v) 0 ≡ cell δ n u v
  unfolding table_of
  table_at u v lu lv =
      get_d_tabulate (n * n) (λ i. cell δ n (i / n) (i % n)) (u * n + v) 0 (digits_lt lu lv)
      ∙ ap₂ (cell δ n) (digits_div u lv) (digits_mod u lv)

  pub cell_self : (u : ℕ) → cell δ n u u ≡ 65535
  unfolding cell
  cell_self u = rw (eq-eqb u u refl)

  pub cell-direct : (u v : ℕ) → u ≢ v → direct δ n u v ≡ true → cell δ n u v ≡ 0
  unfolding cell
  cell-direct u v d e = rw (ne_eqb u v d, e)

  pub cell-label : (u v : ℕ) → u ≢ v → direct δ n u v ≡ false → cell δ n u v ≡ label δ n u v
  unfolding cell
  cell-label u v d e = rw (ne_eqb u v d, e)

  -- what it is to lead
  pub leads-is : (u v w : ℕ) → (leads δ n u v w ≡ true) ↔ ((u ≢ w) × (direct δ n u w ≡ true) × (δ u w < δ u v))
  unfolding leads
  leads-is u v w = (
    λ e.
        let r = and_r (not (eqb u w)) _ e in (
          eqb-false u w (not-true (eqb u w) (and_l (not (eqb u w)) _ e)),
          and_l (direct δ n u w) _ r,
          ltb-true (δ u w) (δ u v) (and_r (direct δ n u w) _ r),
        ),
    λ h. and_i (not (eqb u w)) _ (ap not (ne_eqb u w h.0)) (and_i (direct δ n u w) _ h.1 (lt-ltb (δ u w) (δ u v) h.2)),
  )

  -- the label, by the leading point that is found

  pub label-none : (u v : ℕ) → first (λ w. δ w v) n (leads δ n u v) ≡ none → label δ n u v ≡ 0
  unfolding label
  label-none u v e = rw (e, label)

  pub label-some : (u v : ℕ) {w : ℕ} → first (λ w. δ w v) n (leads δ n u v) ≡ some w → label δ n u v ≡ label_of (δ u v) (δ w v)
  unfolding label
  label-some u v e = rw (e, label)

  -- ---- its edges

  -- at threshold m an edge goes from u to another id v exactly if the cell is at most m
  pub own_edge : (m u v : ℕ) → u < n → v < n → edge_in (table_of δ n) n m u v ≡ not (eqb u v) && leb (cell δ n u v) m
  unfolding edge_in
  own_edge m u v lu lv = rw (table_at u v lu lv)

  -- the direct edges are there at every threshold, so that the graph is closing
  pub own_closing : Symmetric δ → (m : ℕ) → Closing δ n (edge_in (table_of δ n) n m)
  own_closing symm m =
      closing_more
      δ
      symm
      n
      (direct δ n)
      (edge_in (table_of δ n) n m)
      (λ u v lu lv d e.
      own_edge m u v lu lv ∙ and_i (not (eqb u v)) (leb (cell δ n u v) m) (ap not (ne_eqb u v d)) (rw (cell-direct u v d e) (le-leb 0 m zero-le)))
      (direct_closing δ n)

-- ---- distances that agree between the ids below n give the same table

tabulate_same : {A : Type 0} (k : ℕ) (f g : ℕ → A) → ((i : ℕ) → i < k → f i ≡ g i) → tabulate k f ≡ tabulate k g
unfolding tabulate
tabulate_same zero f g h = refl
tabulate_same (suc k) f g h = ap₂ (λ x l. x ∷ l) (h 0 (omega arith)) (tabulate_same k (λ i. f (suc i)) (λ i. g (suc i)) (λ i l. h (suc i) (omega arith)))

-- a table with a cell has a row
pub some-row : (n i : ℕ) → i < n * n → 0 < n
some-row zero i l = absurd (not-suc-le-zero l)
some-row (suc n) i l = omega arith

pick-keys : (key key' : ℕ → ℕ) (b : Bool) (x : ℕ) (r : Option ℕ)
    → key x ≡ key' x
    → ((y : ℕ) → r ≡ some y → key y ≡ key' y)
    → pick key b x r ≡ pick key' b x r
unfolding pick
pick-keys key key' false x r e h = refl
pick-keys key key' true x none e h = refl
pick-keys key key' true x (some y) e h = rw (e, h y refl)

first-keys : (key key' : ℕ → ℕ) (n : ℕ) (p : ℕ → Bool) → ((y : ℕ) → y < n → key y ≡ key' y) → first key n p ≡ first key' n p
unfolding first
first-keys key key' zero p h = refl
first-keys key key' (suc n) p h =
    pick-keys key key' (p n) n (first key n p) (h n (omega arith)) (λ y e. h y (omega (arith, (first_some key n p e).0)))
    ∙ ap (pick key' (p n) n) (first-keys key key' n p (λ y l. h y (omega arith)))

module _ (δ ε : ℕ → ℕ → ℕ) (n : ℕ) (agree : (u v : ℕ) → u < n → v < n → δ u v ≡ ε u v) where
  kept_same : (fuel u v : ℕ) → u < n → v < n → kept_in (between δ) n fuel u v ≡ kept_in (between ε) n fuel u v
  unfolding kept_in between
  kept_same zero u v lu lv = refl
  kept_same (suc fuel) u v lu lv =
      ap
      not
      (any_same n _ _ (λ r l. rw (agree u r lu l, agree u v lu lv, agree v r lv l, kept_same fuel u r lu l)))

  pub direct_same : (u v : ℕ) → u < n → v < n → direct δ n u v ≡ direct ε n u v
  unfolding direct
  direct_same u v lu lv = kept_same (suc (δ u v)) u v lu lv ∙ rw (agree u v lu lv)

  leads_same : (u v w : ℕ) → u < n → v < n → w < n → leads δ n u v w ≡ leads ε n u v w
  unfolding leads
  leads_same u v w lu lv lw = rw (direct_same u w lu lw, agree u w lu lw, agree u v lu lv)

  nearest_same : (u v : ℕ) → u < n → v < n → first (λ w. δ w v) n (leads δ n u v) ≡ first (λ w. ε w v) n (leads ε n u v)
  nearest_same u v lu lv =
      first_same (λ w. δ w v) n (leads δ n u v) (leads ε n u v) (λ w l. leads_same u v w lu lv l)
      ∙ first-keys (λ w. δ w v) (λ w. ε w v) n (leads ε n u v) (λ w l. agree w v l lv)

  pub label_same : (u v : ℕ) → u < n → v < n → label δ n u v ≡ label ε n u v
  label_same u v lu lv =
      ⊎_elim
      (λ e. label-none δ n u v e ∙ sym (label-none ε n u v (sym (nearest_same u v lu lv) ∙ e)))
      (λ f.
      let l = (first_some (λ w. δ w v) n (leads δ n u v) f.1).0 in
      label-some δ n u v f.1
      ∙ ap₂ label_of (agree u v lu lv) (agree f.0 v l lv)
      ∙ sym (label-some ε n u v (sym (nearest_same u v lu lv) ∙ f.1)))
      (first_cases (λ w. δ w v) n (leads δ n u v))

  pub cell_same : (u v : ℕ) → u < n → v < n → cell δ n u v ≡ cell ε n u v
  unfolding cell
  cell_same u v lu lv = rw (direct_same u v lu lv, label_same u v lu lv)

  pub table_same : table_of δ n ≡ table_of ε n
  unfolding table_of
  table_same =
      tabulate_same (n * n) (λ i. cell δ n (i / n) (i % n)) (λ i. cell ε n (i / n) (i % n)) λ i l.
      let z : 0 < n = some-row n i l in
      cell_same (i / n) (i % n) ((div-lt_iff_lt-mul z).1 l) (mod-lt i z)
