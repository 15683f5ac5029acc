-- Fields read out of a sheet, whatever the sheet is: how large they are, and where their bits stand. Assumes nothing.
use mathlib.Core.Path.{◌≡◌, refl, sym, ap, ap₂, ◌∙◌}
use mathlib.Core.Bool.{Bool}
use mathlib.Core.List.{List, [], ◌∷◌, ◌++◌}
use Prim.Native.Nat.{ℕ, zero, suc, ◌+◌, ◌-◌, ◌*◌, ◌/◌, ◌%◌, ◌^◌, ◌≤◌, ◌<◌, min}
use native.Mathlib.Omega.{arith}
use lib.ListN.{length, take, drop, length-drop, take-append-drop}
use lib.Seq.{take-nil, drop-nil, take-append-le, drop-append-le, drop-append-add}
use lib.Pow.{high, low, field}
use Rattle.rules.specs.Bits.{bits, number, unpacked}
use Rattle.rules.specs.Sheet.{field_at, points, coords, width}
use Rattle.laws.proofs.Bits.{length-bits, number_lt, taken_small, number_append}
use Rattle.laws.proofs.Packing.{length-unpacked}

-- ---- how large

pub field_lt : (ys : List ℕ) (p w : ℕ) → field_at ys p w < 2 ^ w
unfolding field_at
field_lt ys p w = taken_small w (drop p (unpacked ys))

pub points-small : (ys : List ℕ) → (1 ≤ points ys) × (points ys ≤ 128)
unfolding points
points-small ys = omega (arith, field_lt ys 0 7)

pub coords-small : (ys : List ℕ) → (1 ≤ coords ys) × (coords ys ≤ 64)
unfolding coords
coords-small ys = omega (arith, field_lt ys 7 6)

pub width_small : (ys : List ℕ) → (1 ≤ width ys) × (width ys ≤ 8)
unfolding width
width_small ys = omega (arith, field_lt ys 13 3)

-- ---- a field ends where the sheet does

pub field_end : (ys : List ℕ) (p w : ℕ) → field_at ys p (min w (length ys * 8 - p)) ≡ field_at ys p w
unfolding field_at
field_end ys p w =
    let l : length (drop p (unpacked ys)) ≡ length ys * 8 - p = rw (length-drop, length-unpacked) in
    ap number (take-least w (length ys * 8 - p) (drop p (unpacked ys)) l)
  where
    take-least : (w n : ℕ) (bs : List Bool) → length bs ≡ n → take (min w n) bs ≡ take w bs
    take-least zero n bs e = let z : min 0 n ≡ 0 = omega arith in rw z
    take-least (suc w) n [] e = take-nil (min (suc w) n)
    take-least (suc w) zero (b ∷ bs) e = absurd (omega arith)
    take-least (suc w) (suc n) (b ∷ bs) e =
        let z : min (suc w) (suc n) ≡ suc (min w n) = omega arith in
        rw z (ap (λ (r : List Bool). b ∷ r) (take-least w n bs (omega arith)))

pub field-none : (ys : List ℕ) (p : ℕ) → field_at ys p 0 ≡ 0
unfolding field_at number
field-none ys p = refl

-- ---- a part of a number's bits, by division

module _ (bs : List Bool) where
  abbrev L : ℕ
  L = length bs

  halves : (f : ℕ) → number bs ≡ number (take f bs) * 2 ^ (L - f) + number (drop f bs)
  halves f =
      ap number (sym (take-append-drop f bs))
      ∙ number_append (take f bs) (drop f bs)
      ∙ ap (λ (n : ℕ). number (take f bs) * 2 ^ n + number (drop f bs)) (length-drop f bs)

  dropped_lt : (f : ℕ) → number (drop f bs) < 2 ^ (L - f)
  dropped_lt f = rw (length-drop f bs) at (number_lt (drop f bs))

  pub number-take : (w : ℕ) → number (take w bs) ≡ number bs / 2 ^ (L - w)
  number-take w = sym (ap (λ (n : ℕ). n / 2 ^ (L - w)) (halves w) ∙ high (number (take w bs)) (L - w) (dropped_lt w))

  pub number-drop : (f : ℕ) → number (drop f bs) ≡ number bs % 2 ^ (L - f)
  number-drop f = sym (ap (λ (n : ℕ). n % 2 ^ (L - f)) (halves f) ∙ low (number (take f bs)) (L - f) (dropped_lt f))

pub number-part : (bs : List Bool) (f w : ℕ) → f + w ≤ length bs → number (take w (drop f bs)) ≡ number bs / 2 ^ (length bs - f - w) % 2 ^ w
number-part bs f w h =
    let k = length bs - f - w in
    let e : length (drop f bs) - w ≡ k = rw (length-drop f bs) in
    let s : length bs - f ≡ w + k = omega arith in
    number-take (drop f bs) w
    ∙ ap₂ (λ (n m : ℕ). n / 2 ^ m) (number-drop bs f ∙ ap (λ (m : ℕ). number bs % 2 ^ m) s) e
    ∙ field (number bs) w k

-- ---- the bits of some of the bytes

pub drop-unpacked : (j : ℕ) (ys : List ℕ) → drop (j * 8) (unpacked ys) ≡ unpacked (drop j ys)
unfolding unpacked
drop-unpacked zero ys = refl
drop-unpacked (suc j) [] = drop-nil (suc j * 8)
drop-unpacked (suc j) (y ∷ ys) =
    let e : suc j * 8 ≡ length (bits 8 y) + j * 8 = rw length-bits (omega arith) in
    rw e (drop-append-add (bits 8 y) (unpacked ys) (j * 8) ∙ drop-unpacked j ys)

-- bits that lie in the first of two lists
pub part_in : (P Q : List Bool) (f w : ℕ) → f + w ≤ length P → take w (drop f (P ++ Q)) ≡ take w (drop f P)
part_in P Q f w h =
    ap (take w) (drop-append-le f P Q (omega arith)) ∙ take-append-le w (drop f P) Q (rw length-drop (omega arith))
