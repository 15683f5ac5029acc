-- Bits and the numbers that they write. Assumes nothing.
use mathlib.Core.Path.{◌≡◌, refl, sym, ap, ap₂, ◌∙◌}
use mathlib.Core.Bool.{Bool, true, false}
use mathlib.Core.List.{List, [], ◌∷◌, ◌++◌}
use Prim.Native.Nat.{ℕ, zero, suc, ◌+◌, ◌*◌, ◌/◌, ◌%◌, ◌^◌, ◌<◌}
use native.Mathlib.Nat.{lt_of_lt_of_le, mod-lt, mod-one, mod-eq_of_lt, zero-lt-suc, mul-add-mod_self_right, add-mul-div_right, pow-suc, add_comm}
use native.Mathlib.Numerals.{one-add}
use native.Mathlib.Omega.{arith}
use lib.ListN.{length, take, length-append, length-replicate, length-take}
use lib.Arith.{digits_lt}
use lib.Pow.{pow_pos, pow_mono, pow-add, mod-pow-add, high}
use lib.Dec.{eqb, lit<}
use Rattle.rules.specs.Bits.{bit, odd, bits, number, zeros}

pub bit_lt : (b : Bool) → bit b < 2
unfolding bit
bit_lt false = lit< tt
bit_lt true = lit< tt

pub bit-odd : (n : ℕ) → bit (odd n) ≡ n % 2
unfolding bit odd
bit-odd n = go (n % 2) (mod-lt n (zero-lt-suc 1))
  where
    go : (r : ℕ) → r < 2 → bit (eqb r 1) ≡ r
    go zero h = refl
    go (suc zero) h = refl
    go (suc (suc r)) h = omega arith

pub odd-bit : (b : Bool) → odd (bit b) ≡ b
unfolding odd bit
odd-bit false = refl
odd-bit true = refl

pub odd-add : (x y : ℕ) → odd (x * 2 + y) ≡ odd y
unfolding odd
odd-add x y = ap (λ (r : ℕ). eqb r 1) (mul-add-mod_self_right x 2 y)

-- the equations of `bits` and `number`, for rewriting
pub bits-suc : (w v : ℕ) → bits (suc w) v ≡ odd (v / 2 ^ w) ∷ bits w v
unfolding bits
bits-suc w v = refl

pub number-cons : (b : Bool) (bs : List Bool) → number (b ∷ bs) ≡ bit b * 2 ^ length bs + number bs
unfolding number
number-cons b bs = refl

pub length-bits : (w v : ℕ) → length (bits w v) ≡ w
unfolding bits
length-bits zero v = refl
length-bits (suc w) v = ap suc (length-bits w v)

-- the number that w bits of v write
pub number-bits : (w v : ℕ) → number (bits w v) ≡ v % 2 ^ w
unfolding bits number
number-bits zero v = sym (mod-one v)
number-bits (suc w) v =
    number-cons (odd (v / 2 ^ w)) (bits w v)
    ∙ rw (bit-odd, length-bits w v, number-bits w v, ← one-add w) (sym (mod-pow-add v 1 w))

pub number-bits_lt : (w v : ℕ) → v < 2 ^ w → number (bits w v) ≡ v
number-bits_lt w v h = number-bits w v ∙ mod-eq_of_lt h

pub number_lt : (bs : List Bool) → number bs < 2 ^ length bs
unfolding number
number_lt [] = lit< tt
number_lt (b ∷ bs) =
    let h : bit b * 2 ^ length bs + number bs < 2 ^ suc (length bs) = omega (arith, digits_lt (bit_lt b) (number_lt bs)) in h

pub taken_small : (w : ℕ) (bs : List Bool) → number (take w bs) < 2 ^ w
taken_small w bs = lt_of_lt_of_le (number_lt (take w bs)) (pow_mono {j = w} (rw (length-take w bs) (omega arith)))

-- what stands above the w bits does not matter
pub bits_above : (w x v : ℕ) → bits w (x * 2 ^ w + v) ≡ bits w v
unfolding bits
bits_above zero x v = refl
bits_above (suc w) x v =
    let e : x * 2 ^ suc w + v ≡ v + x * 2 * 2 ^ w = rw pow-suc (omega arith) in
    let f : x * 2 ^ suc w + v ≡ x * 2 * 2 ^ w + v = rw pow-suc (omega arith) in
    ap₂ (λ (b : Bool) (r : List Bool). b ∷ r)
    (ap (λ (y : ℕ). odd (y / 2 ^ w)) e ∙ ap odd (add-mul-div_right v (x * 2) (pow_pos w) ∙ add_comm (v / 2 ^ w) (x * 2)) ∙ odd-add x (v / 2 ^ w))
    (ap (bits w) f ∙ bits_above w (x * 2) v)

pub bits-number : (bs : List Bool) → bits (length bs) (number bs) ≡ bs
unfolding bits number
bits-number [] = refl
bits-number (b ∷ bs) =
    ap₂ (λ (a : Bool) (r : List Bool). a ∷ r)
    (ap odd (high (bit b) (length bs) (number_lt bs)) ∙ odd-bit b)
    (bits_above (length bs) (bit b) (number bs) ∙ bits-number bs)

pub bits_of_number : (w : ℕ) (bs : List Bool) → length bs ≡ w → bits w (number bs) ≡ bs
bits_of_number w bs e = rw (← e) (bits-number bs)

-- bits after bits
pub number_append : (xs ys : List Bool) → number (xs ++ ys) ≡ number xs * 2 ^ length ys + number ys
unfolding number
number_append [] ys = omega arith
number_append (b ∷ xs) ys =
    number-cons b (xs ++ ys)
    ∙ rw (length-append xs ys, number_append xs ys, pow-add 2 (length xs) (length ys)) (omega arith)

-- ---- zero bits

pub length-zeros : (k : ℕ) → length (zeros k) ≡ k
unfolding zeros
length-zeros k = length-replicate k false

pub number-zeros : (k : ℕ) → number (zeros k) ≡ 0
unfolding zeros number bit
number-zeros zero = refl
number-zeros (suc k) = rw (number-zeros k) (omega arith)

-- bits whose number is 0 are zeros
pub zeros_of_number : (bs : List Bool) → number bs ≡ 0 → bs ≡ zeros (length bs)
unfolding zeros number bit
zeros_of_number [] e = refl
zeros_of_number (false ∷ bs) e = ap (λ (r : List Bool). false ∷ r) (zeros_of_number bs (omega arith))
zeros_of_number (true ∷ bs) e = absurd (omega (arith, pow_pos (length bs)))
