-- The largest label: 32,624 under document 01's limits, so that every cell off the diagonal is at most that. Assumes nothing.
use Prim.Native.Nat.{ℕ, zero, suc, ◌+◌, ◌-◌, ◌*◌, ◌≤◌, ◌<◌, zero-le}
use mathlib.Core.Path.{◌≡◌, refl, sym, ap, ap₂, ◌∙◌}
use mathlib.Core.Logic.{◌≢◌, ◌⊎◌, inl, inr, ⊎_elim}
use mathlib.Core.Bool.{Bool, true, false}
use mathlib.Core.List.{List, [], ◌∷◌}
use native.Mathlib.Nat.{mul-le-mul, le_trans, lt_irrefl}
use native.Mathlib.Decide.{dec_le}
use native.Mathlib.Omega.{arith}
use lib.IntN.{ℤ, pos, negsuc, ◌+ℤ◌, ◌-ℤ◌, nat_abs, +ℤ_idl, -ℤ-+ℤ_cancel}
use lib.Signed.{mag}
use lib.ListN.{length, get_or, drop, length-take, length-drop}
use lib.Seq.{get_or-take, get_or-drop}
use Rattle.rules.specs.Points.{square, dist, coordinates, apart}
use Rattle.rules.specs.Edges.{direct}
use Rattle.rules.specs.Labels.{not_above, largest, label_of, leads, cell}
use Rattle.laws.proofs.Tests.{both, le_or_lt}
use Rattle.laws.proofs.Order.{first_some, first_cases}
use Rattle.laws.proofs.Labels.{reaches_facts, reaches-less}
use Rattle.laws.proofs.Distances.{gap_le}
use Rattle.laws.proofs.Refusals.{SetOk, room}
use Rattle.laws.proofs.Table.{cell-direct, cell-label, label-none, label-some, leads-is}

-- ---- the largest label

-- the largest is 0, or it passes
largest_or : (p : ℕ → Bool) (k : ℕ) → (largest p k ≡ 0) ⊎ (p (largest p k) ≡ true)
unfolding largest
largest_or p zero = inl refl
largest_or p (suc k) = by (largest_or p k) (p (suc k)) refl
  where
    by : (largest p k ≡ 0) ⊎ (p (largest p k) ≡ true) → (v : Bool) → p (suc k) ≡ v → (largest p (suc k) ≡ 0) ⊎ (p (largest p (suc k)) ≡ true)
    by below true e = inr (rw (e, largest) e)
    by below false e = rw (e, largest) below

-- a number that passes is below 32,625 where no leading point is at v itself
test_largest : (duv dwv t : ℕ) → duv ≤ 4161600 → 1 ≤ dwv → not_above duv dwv t ≡ true → t ≤ 32624
unfolding not_above
test_largest duv dwv t h k e = by (dec_le t 32624)
  where
    by : Dec (t ≤ 32624) → t ≤ 32624
    by (yes l) = l
    by (no n) =
        let more : 32625 ≤ t = omega arith in
        let f = reaches_facts (256 * duv) (256 * dwv) 1064390625 (reaches-less (256 * duv) (256 * dwv) 1064390625 (t * t) (mul-le-mul more more) e) in
        let g : 256 * duv - 256 * dwv - 1064390625 ≤ 978719 = omega arith in
        let gg : (256 * duv - 256 * dwv - 1064390625) * (256 * duv - 256 * dwv - 1064390625) ≤ 978719 * 978719 = mul-le-mul g g in
        absurd (none (le_trans f.square gg))
      where
        none : 4 * 1064390625 * (256 * dwv) ≤ 978719 * 978719 → ⊥
        none l = omega arith

pub label_limit : (duv dwv : ℕ) → duv ≤ 4161600 → 1 ≤ dwv → label_of duv dwv ≤ 32624
unfolding label_of
label_limit duv dwv h k =
    ⊎_elim
    (λ z. rw z zero-le)
    (λ e. test_largest duv dwv (largest (not_above duv dwv) 32767) h k e)
    (largest_or (not_above duv dwv) 32767)

-- ---- the largest cell off the diagonal

module _ (δ : ℕ → ℕ → ℕ) (n : ℕ) (small : (u v : ℕ) → u < n → v < n → δ u v ≤ 4161600)
    (alike : (u v w : ℕ) → u < n → v < n → w < n → δ w v ≡ 0 → δ u w ≡ δ u v) where
  -- a point that leads towards v is not at v
  leads-apart : (u v w : ℕ) → u < n → v < n → w < n → leads δ n u v w ≡ true → 1 ≤ δ w v
  leads-apart u v w lu lv lw e =
      ⊎_elim
      (λ z. absurd (lt_irrefl (δ u v) (omega (arith, ((leads-is δ n u v w).0 e).2, alike u v w lu lv lw (omega arith)))))
      (λ h. h)
      (le_or_lt (δ w v) 0)

  pub cell_limit : (u v : ℕ) → u < n → v < n → u ≢ v → cell δ n u v ≤ 32624
  cell_limit u v lu lv d =
      ⊎_elim
      (λ e. rw (cell-direct δ n u v d e) zero-le)
      (λ e.
      rw
      (cell-label δ n u v d e)
      (⊎_elim
      (λ z. rw (label-none δ n u v z) zero-le)
      (λ f.
      let l = first_some (λ w. δ w v) n (leads δ n u v) f.1 in
      rw (label-some δ n u v f.1) (label_limit (δ u v) (δ f.0 v) (small u v lu lv) (leads-apart u v f.0 lu lv l.0 l.1)))
      (first_cases (λ w. δ w v) n (leads δ n u v))))
      (both (direct δ n u v))

-- ---- the distances of a set have both properties

zero-square : (k : ℕ) → k * k ≡ 0 → k ≡ 0
zero-square zero e = refl
zero-square (suc k) e =
    let one : 1 ≤ suc k = omega arith in
    let h : 1 * 1 ≤ suc k * suc k = mul-le-mul one one in
    absurd (lt_irrefl 0 (omega (arith, e)))

abs_zero : (z : ℤ) → nat_abs z ≡ 0 → z ≡ pos 0
abs_zero (pos n) e = ap pos e
abs_zero (negsuc n) e = absurd (none e)
  where
    none : suc n ≡ 0 → ⊥
    none e = omega arith

-- whole numbers that are no square apart are the same
gap_zero : (x y : ℤ) → square (x -ℤ y) ≡ 0 → x ≡ y
gap_zero x y e = sym (-ℤ-+ℤ_cancel x y) ∙ ap (λ (z : ℤ). z +ℤ y) (abs_zero (x -ℤ y) (zero-square (nat_abs (x -ℤ y)) e)) ∙ +ℤ_idl y

-- points at distance 0 are the same
pub dist-zero : (a b : List ℤ) → length a ≡ length b → dist a b ≡ 0 → a ≡ b
unfolding dist
dist-zero [] [] l e = refl
dist-zero [] (y ∷ b) l e = absurd (none l)
  where
    none : 0 ≡ suc (length b) → ⊥
    none l = omega arith
dist-zero (x ∷ a) [] l e = absurd (none l)
  where
    none : suc (length a) ≡ 0 → ⊥
    none l = omega arith
dist-zero (x ∷ a) (y ∷ b) l e = ap₂ (λ z r. z ∷ r) (gap_zero x y (omega arith)) (dist-zero a b (omega arith) (omega arith))

-- every coordinate is a number of 8 bits
abbrev pub Bytes : List ℤ → Type 0
Bytes l = (i : ℕ) → i < length l → mag (get_or l i (pos 0)) < 128

pub dist-small : (a b : List ℤ) → Bytes a → Bytes b → dist a b ≤ 65025 * length a
unfolding dist
dist-small [] b p q = zero-le
dist-small (x ∷ a) [] p q = zero-le
dist-small (x ∷ a) (y ∷ b) p q =
    let g = gap_le x y (p 0 (omega arith)) (q 0 (omega arith)) in
    let s : square (x -ℤ y) ≤ 255 * 255 = mul-le-mul g g in
    omega (arith, dist-small a b (λ i l. p (suc i) (omega arith)) (λ i l. q (suc i) (omega arith)))

module _ (n d : ℕ) (vectors : List ℤ) (ok : SetOk n d (length vectors)) where
  pub coordinates-length : (id : ℕ) → id < n → length (coordinates d vectors id) ≡ d
  unfolding coordinates
  coordinates-length id l = simp (length-take, length-drop) (omega (arith, room id ok l))

  pub apart_alike : (u v w : ℕ) → u < n → v < n → w < n → apart d vectors w v ≡ 0 → apart d vectors u w ≡ apart d vectors u v
  unfolding apart
  apart_alike u v w lu lv lw e =
      ap
      (dist (coordinates d vectors u))
      (dist-zero (coordinates d vectors w) (coordinates d vectors v) (coordinates-length w lw ∙ sym (coordinates-length v lv)) e)

  coordinates_bytes : Bytes vectors → (id : ℕ) → id < n → Bytes (coordinates d vectors id)
  unfolding coordinates
  coordinates_bytes bytes id l i h =
      let k : i < d = omega (arith, h, coordinates-length id l) in
      rw (get_or-take d (drop (id * d) vectors) i (pos 0) k, get_or-drop (id * d) vectors i (pos 0)) (bytes (id * d + i) (omega (arith, room id ok l)))

  pub apart-small : Bytes vectors → (u v : ℕ) → u < n → v < n → apart d vectors u v ≤ 4161600
  unfolding apart
  apart-small bytes u v lu lv =
      let small = dist-small (coordinates d vectors u) (coordinates d vectors v) (coordinates_bytes bytes u lu) (coordinates_bytes bytes v lv) in
      omega (arith, small, coordinates-length u lu, ok.few-coordinates)

  -- every cell off the diagonal of the set's own table
  pub own_limit : Bytes vectors → (u v : ℕ) → u < n → v < n → u ≢ v → cell (apart d vectors) n u v ≤ 32624
  own_limit bytes = cell_limit (apart d vectors) n (apart-small bytes) apart_alike
