-- Values of c bits: their sign, and whether they fit. Assumes nothing.
use Rattle.std.proofs.Common.{◌≡◌, ℕ, zero, suc, ◌+◌, ◌-◌, ◌*◌, ◌/◌, ◌%◌, ◌^◌, ◌≤◌, ◌<◌, Bool, true, false, ◌&&◌, cond, Less, Equal, Greater, List, [], ◌∷◌, ℤ, pos, negsuc, ltb, sym, ap, refl, ◌∙◌, arith}
use Rattle.std.specs.Ordering.{is_le, is_lt, int_cmp}
use Rattle.std.specs.List.{list_all}
use lib.IntN.{◌-ℤ◌}
use lib.Pow.{suc_ones, pow_pos, pow_mono, pow-add, shl-shr, shl_lt}
use lib.Signed.{shr_z, lt_z}
use native.Mathlib.Nat.{lt_of_lt_of_le, mod-eq_of_lt, mul-le-mul_right, mul-lt-mul_of_pos_right}
use Rattle.std.proofs.lemmas.Nat.{div-mul-add, one_shl}
use Rattle.std.proofs.lemmas.Int.{ints, to_z_pos, of_z-to_z}
use borrow.Author.Tests.{lt-ltb, le-ltb, ltb-true}
use mathlib.Core.Logic.{⊎_elim}
use mir.Syntax.{w8, w16}
use mir.Val.{SFits, to_z, of_z}
use mir.ValLaws.{to_z-of_z}
use Rattle.rules.specs.Bits.{bits, twos, signed, signed_by, fits, all_fit}
use Rattle.laws.proofs.Tests.{le_or_lt}
use Rattle.laws.proofs.Bits.{bits_above}
use Rattle.laws.proofs.Values.{half}

abbrev fits_half : ℕ → ℤ → Bool
fits_half H (pos n) = ltb n H
fits_half H (negsuc n) = ltb n H

-- ---- the sign that shifts bring along

module _ (c u : ℕ) (some : 1 ≤ c) (few : c ≤ 8) (small : u < 2 ^ c) where
  -- moved to the byte's front
  abbrev front : ℕ
  front = u * 2 ^ (8 - c) % 65536

  front_lt : u * 2 ^ (8 - c) < 256
  front_lt = let e : c + (8 - c) ≡ 8 = omega arith in rw e at (shl_lt c (8 - c) small)

  front_is : front ≡ u * 2 ^ (8 - c)
  front_is = let h : u * 2 ^ (8 - c) < 65536 = omega (arith, front_lt) in mod-eq_of_lt h

  pub front_small : front < 256
  front_small = rw front_is front_lt

  -- 256 is 2 ^ c times what the front was moved by
  whole : 2 ^ c * 2 ^ (8 - c) ≡ 256
  whole = let e : c + (8 - c) ≡ 8 = omega arith in rw (← (pow-add 2 c (8 - c)), e)

  halves : 2 ^ (c - 1) * 2 ^ (8 - c) ≡ 128
  halves = let e : c - 1 + (8 - c) ≡ 7 = omega arith in rw (← (pow-add 2 (c - 1) (8 - c)), e)

  -- what an upper half's complement is
  upper : (255 - u * 2 ^ (8 - c)) / 2 ^ (8 - c) ≡ 2 ^ c - suc u
  upper =
      let P = 2 ^ (8 - c) in
      let one : 1 ≤ P = pow_pos (8 - c) in
      let m : 2 ^ c - suc u + suc u ≡ 2 ^ c = omega arith in
      let w : (2 ^ c - suc u) * P + suc u * P ≡ 256 = omega (arith, ap (λ (n : ℕ). n * P) m, whole) in
      let e : 255 - u * P ≡ (2 ^ c - suc u) * P + (P - 1) = omega arith in
      rw e (div-mul-add (2 ^ c - suc u) P (P - 1) (omega arith))

  abbrev F : ℕ
  F = u * 2 ^ (8 - c)

  -- the shift back, of a value that is read from its bits before and after
  moved : (z y : ℤ) → to_z w8 F ≡ z → shr_z z (2 ^ (8 - c)) ≡ y → SFits w8 y
      → to_z w8 (of_z w8 (shr_z (to_z w8 (of_z w8 (to_z w8 F))) (2 ^ (8 - c)))) ≡ y
  moved z y e s f =
      rw (of_z-to_z w8 F front_lt, e, s) (to_z-of_z w8 y f)

  lower : u < 2 ^ (c - 1) → to_z w8 (of_z w8 (shr_z (to_z w8 (of_z w8 (to_z w8 F))) (2 ^ (8 - c)))) ≡ pos u
  lower h =
      let m : 2 ^ (c - 1) ≤ 128 = pow_mono {j = 7} (omega arith) in
      let l : F < 128 = rw halves at (mul-lt-mul_of_pos_right h (pow_pos (8 - c))) in
      moved (pos F) (pos u) (to_z_pos w8 F l) (ap pos (shl-shr u (8 - c))) (record { sfits = omega arith })

  higher : 2 ^ (c - 1) ≤ u → to_z w8 (of_z w8 (shr_z (to_z w8 (of_z w8 (to_z w8 F))) (2 ^ (8 - c)))) ≡ negsuc (2 ^ c - suc u)
  higher h =
      let m : 2 ^ (c - 1) ≤ 128 = pow_mono {j = 7} (omega arith) in
      let l : 128 ≤ F = rw halves at (mul-le-mul_right (2 ^ (8 - c)) h) in
      let e : 256 - suc F ≡ 255 - F = omega arith in
      moved (negsuc (256 - suc F)) (negsuc (2 ^ c - suc u)) (rw (le-ltb F 128 l)) (ap negsuc (ap (λ (n : ℕ). n / 2 ^ (8 - c)) e ∙ upper))
      (record { sfits = omega (arith, half c some) })

  pub sign_is : {z : ℤ} → z ≡ to_z w8 front → to_z w8 (of_z w8 (shr_z (to_z w8 (of_z w8 z)) (2 ^ (8 - c)))) ≡ signed c u
  unfolding signed signed_by
  sign_is is =
      rw (is, front_is)
      (⊎_elim
      (λ (h : 2 ^ (c - 1) ≤ u). higher h ∙ rw (le-ltb u (2 ^ (c - 1)) h))
      (λ (h : u < 2 ^ (c - 1)). lower h ∙ rw (lt-ltb u (2 ^ (c - 1)) h))
      (le_or_lt (2 ^ (c - 1)) u))

-- ---- the code of a value that fits

-- the last c bits of the two's complement in eight bits are those of the two's complement in c bits
pub bits_eight : (c : ℕ) (z : ℤ) → c ≤ 8 → fits c z ≡ true → bits c (twos 8 z) ≡ bits c (twos c z)
unfolding twos fits
bits_eight c (pos n) h f = refl
bits_eight c (negsuc n) h f =
    let s : 8 - c + c ≡ 8 = omega arith in
    let g : 256 ≡ suc (2 ^ (8 - c) - 1) * 2 ^ c = rw (suc_ones (8 - c), ← (pow-add 2 (8 - c) c), s) in
    let m : n < 2 ^ (c - 1) = ltb-true n (2 ^ (c - 1)) f in
    let l : suc n ≤ 2 ^ c = lt_of_lt_of_le m (pow_mono {i = c - 1} {j = c} (omega arith)) in
    let e : 256 - suc n ≡ (2 ^ (8 - c) - 1) * 2 ^ c + (2 ^ c - suc n) = omega (arith, g) in
    ap (bits c) e ∙ bits_above c (2 ^ (8 - c) - 1) (2 ^ c - suc n)

-- ---- whether a value fits: it is from -H to H - 1, where H is 2 ^ (c - 1)

fits-is : (c : ℕ) (z : ℤ) → fits_half (2 ^ (c - 1)) z ≡ fits c z
unfolding fits
fits-is c (pos n) = refl
fits-is c (negsuc n) = refl

lt_is : (x y : ℤ) → is_lt (int_cmp x y) ≡ lt_z x y
lt_is x y = go (lt_z x y) (lt_z y x)
  where
    go : (a b : Bool) → is_lt (cond a Less (cond b Greater Equal)) ≡ a
    go true b = refl
    go false true = refl
    go false false = refl

le_is : (n h : ℕ) → is_le (int_cmp (negsuc h) (negsuc n)) ≡ ltb n (suc h)
le_is n h =
    ⊎_elim
    (λ (l : suc h ≤ n). rw (le-ltb n (suc h) l, le-ltb n h (omega arith), lt-ltb h n (omega arith)))
    (λ (l : n < suc h). rw (lt-ltb n (suc h) l, le-ltb h n (omega arith)) (go (ltb n h)))
    (le_or_lt (suc h) n)
  where
    go : (a : Bool) → is_le (cond a Less Equal) ≡ true
    go true = refl
    go false = refl

within : (h : ℕ) (z : ℤ) → is_le (int_cmp (negsuc h) z) && is_lt (int_cmp z (pos (suc h))) ≡ fits_half (suc h) z
within h (pos n) = lt_is (pos n) (pos (suc h))
within h (negsuc n) = rw (le_is n h) (go (ltb n (suc h)))
  where
    go : (a : Bool) → a && true ≡ a
    go true = refl
    go false = refl

-- as the code finds it, where a value is read from its bits
pub fits_by : (c : ℕ) (z : ℤ) → 1 ≤ c → c ≤ 8 → SFits w8 z → {r : Bool} {x : ℤ} → x ≡ to_z w8 (of_z w8 z)
    → r ≡ is_le (int_cmp (to_z w16 (of_z w16 (pos 0 -ℤ to_z w16 (1 * 2 ^ (c - 1) % 65536)))) (to_z w16 (of_z w16 x))) && is_lt (int_cmp (to_z w16 (of_z w16 x)) (to_z w16 (1 * 2 ^ (c - 1) % 65536)))
    → r ≡ fits c z
fits_by c z some few f {r} {x} ex er =
    let m : 2 ^ (c - 1) ≤ 128 = pow_mono {j = 7} (omega arith) in
    let i : x ≡ z = ex ∙ to_z-of_z w8 z f in
    let g : SFits w16 z = record { sfits = omega (arith, f.sfits) } in
    er ∙ rw (i, to_z-of_z w16 z g, one_shl (c - 1) 16 (omega arith)) (go (2 ^ (c - 1)) refl (pow_pos (c - 1)) m)
  where
    go : (H : ℕ) → 2 ^ (c - 1) ≡ H → 1 ≤ H → H ≤ 128
        → is_le (int_cmp (to_z w16 (of_z w16 (pos 0 -ℤ to_z w16 H))) z) && is_lt (int_cmp z (to_z w16 H)) ≡ fits c z
    go zero e p l = absurd (omega arith)
    go (suc h) e p l =
        let minus : pos 0 -ℤ pos (suc h) ≡ negsuc h = omega (arith, ints) in
        let b : SFits w16 (negsuc h) = record { sfits = omega arith } in
        rw (to_z_pos w16 (suc h) (omega arith), minus, to_z-of_z w16 (negsuc h) b) (within h z ∙ ap (λ (H : ℕ). fits_half H z) (sym e) ∙ fits-is c z)

-- ---- whether all do

pub all_fit-is : (c : ℕ) (zs : List ℤ) → list_all (fits c) zs ≡ all_fit c zs
unfolding all_fit
all_fit-is c [] = refl
all_fit-is c (z ∷ zs) = ap (λ (b : Bool). fits c z && b) (all_fit-is c zs)
