-- Bits put into bytes one after the other. Assumes nothing.
use mathlib.Core.Path.{◌≡◌, refl, sym, ap, ap₂, ◌∙◌}
use mathlib.Core.Bool.{Bool}
use mathlib.Core.List.{List, [], ◌∷◌, ◌++◌}
use Prim.Native.Nat.{ℕ, zero, suc, ◌+◌, ◌-◌, ◌*◌, ◌/◌, ◌%◌, ◌^◌, ◌≤◌, ◌<◌}
use native.Mathlib.Nat.{mod-lt, mod-eq_of_lt, zero-lt-suc, div-one}
use native.Mathlib.Omega.{arith}
use lib.ListN.{length, get_or, set, length-set}
use lib.Seq.{get_or-set_same, set-set}
use lib.Arith.{digits_lt}
use Rattle.std.proofs.lemmas.Nat.{one_shl, shl_whole}
use lib.Pow.{shr_lt, shl_lt, shl-shr, shr-shr, pow_pos, pow-add, mod-pow-add}
use Rattle.rules.specs.Bits.{bit, odd, bits}
use Rattle.laws.proofs.Bits.{bit-odd, bits-suc}
use Rattle.sheet.specs.Put.{put_in, put_bit, put_bits}

-- ---- their equations

pub put_bits-cons : (out : List ℕ) (at : ℕ) (b : Bool) (bs : List Bool) → put_bits out at (b ∷ bs) ≡ put_bits (put_bit out at (bit b)) (at + 1) bs
unfolding put_bits
put_bits-cons out at b bs = refl

pub put_bits-append : (out : List ℕ) (at : ℕ) (xs ys : List Bool) → put_bits out at (xs ++ ys) ≡ put_bits (put_bits out at xs) (at + length xs) ys
unfolding put_bits
put_bits-append out at [] ys = let e : at + 0 ≡ at = omega arith in rw e
put_bits-append out at (x ∷ xs) ys =
    let e : at + 1 + length xs ≡ at + suc (length xs) = omega arith in
    put_bits-append (put_bit out at (bit x)) (at + 1) xs ys ∙ ap (λ (p : ℕ). put_bits (put_bits (put_bit out at (bit x)) (at + 1) xs) p ys) e

-- ---- several bits into one byte

-- a byte that keeps its first m bits, has the last k bits of v next and zeros after them
unfoldable pub put_part : ℕ → ℕ → ℕ → ℕ → ℕ
put_part x m k v = (x / 2 ^ (8 - m) % 2 ^ m * 2 ^ k + v % 2 ^ k) * 2 ^ (8 - m - k)

one_bit : (x m v : ℕ) → put_in x m (v / 2 ^ 0 % 2) ≡ put_part x m 1 v
unfolding put_in put_part
one_bit x m v =
    let e : 8 - m - 1 ≡ 7 - m = omega arith in
    rw (div-one v, e)

-- the first bit, and then the others
more_bits : (x m k v : ℕ) → m + suc (suc k) ≤ 8 → put_part (put_in x m (v / 2 ^ suc k % 2)) (m + 1) (suc k) v ≡ put_part x m (suc (suc k)) v
unfolding put_in put_part
more_bits x m k v h =
    let X = x / 2 ^ (8 - m) % 2 ^ m in
    let b = v / 2 ^ suc k % 2 in
    let y = X * 2 + b in
    let s : 8 - (m + 1) ≡ 7 - m = omega arith in
    let t : 7 - m - suc k ≡ 8 - m - suc (suc k) = omega arith in
    let l : y < 2 ^ (m + 1) = rw pow-add (digits_lt (mod-lt (x / 2 ^ (8 - m)) (pow_pos m)) (mod-lt (v / 2 ^ suc k) (zero-lt-suc 1))) in
    let u : y * 2 ^ (7 - m) / 2 ^ (7 - m) % 2 ^ (m + 1) ≡ y = ap (λ (n : ℕ). n % 2 ^ (m + 1)) (shl-shr y (7 - m)) ∙ mod-eq_of_lt l in
    let w : v % 2 ^ (1 + suc k) ≡ b * 2 ^ suc k + v % 2 ^ suc k = mod-pow-add v 1 (suc k) in
    let o : suc (suc k) ≡ 1 + suc k = omega arith in
    let p : 2 ^ (1 + suc k) ≡ 2 * 2 ^ suc k = pow-add 2 1 (suc k) in
    rw (s, u, t) (ap (λ (n : ℕ). n * 2 ^ (8 - m - suc (suc k))) (rw (o, w, p) (omega arith)))

no_bits : (out : List ℕ) (at v : ℕ) → put_bits out at (bits 0 v) ≡ out
unfolding put_bits bits
no_bits out at v = refl

-- K BITS INTO ONE BYTE ARE ONE STORE
pub put-part : (out : List ℕ) (at k v : ℕ) → at % 8 + suc k ≤ 8 → at / 8 < length out
    → put_bits out at (bits (suc k) v) ≡ set out (at / 8) (put_part (get_or out (at / 8) 0) (at % 8) (suc k) v)
unfolding put_bit
put-part out at zero v h room =
    ap (put_bits out at) (bits-suc 0 v)
    ∙ put_bits-cons out at (odd (v / 2 ^ 0)) (bits 0 v)
    ∙ no_bits (put_bit out at (bit (odd (v / 2 ^ 0)))) (at + 1) v
    ∙ ap (λ (b : ℕ). set out (at / 8) (put_in (get_or out (at / 8) 0) (at % 8) b)) (bit-odd (v / 2 ^ 0))
    ∙ ap (set out (at / 8)) (one_bit (get_or out (at / 8) 0) (at % 8) v)
put-part out at (suc k) v h room =
    let j = at / 8 in
    let m = at % 8 in
    let x = get_or out j 0 in
    let y = put_in x m (v / 2 ^ suc k % 2) in
    let e : (at + 1) / 8 ≡ j = omega arith in
    let f : (at + 1) % 8 ≡ m + 1 = omega arith in
    ap (put_bits out at) (bits-suc (suc k) v)
    ∙ put_bits-cons out at (odd (v / 2 ^ suc k)) (bits (suc k) v)
    ∙ ap (λ (b : ℕ). put_bits (set out j (put_in x m b)) (at + 1) (bits (suc k) v)) (bit-odd (v / 2 ^ suc k))
    ∙ put-part (set out j y) (at + 1) k v (omega arith) (rw (length-set out j y) (omega arith))
    ∙ rw (e, f, get_or-set_same out j y 0 room, set-set out j y)
    (ap (set out j) (more_bits x m k v h))

pub put-part-some : (out : List ℕ) (at k v : ℕ) → 1 ≤ k → at % 8 + k ≤ 8 → at / 8 < length out
    → put_bits out at (bits k v) ≡ set out (at / 8) (put_part (get_or out (at / 8) 0) (at % 8) k v)
put-part-some out at zero v some h room = absurd (omega arith)
put-part-some out at (suc k) v some h room = put-part out at k v h room

-- the byte as the code computes it
abbrev pub stored : ℕ → ℕ → ℕ → ℕ → ℕ
stored x m k v = (x / 2 ^ (8 - m) * 2 ^ k % 18446744073709551616 + v % (1 * 2 ^ k % 18446744073709551616)) * 2 ^ (8 - m - k) % 18446744073709551616

module _ (x m k v : ℕ) (hx : x < 256) (some : 1 ≤ k) (few : m + k ≤ 8) where
  abbrev kept : ℕ
  kept = x / 2 ^ (8 - m)

  abbrev sum : ℕ
  sum = kept * 2 ^ k + v % 2 ^ k

  kept_lt : kept < 2 ^ m
  kept_lt = let e : m + (8 - m) ≡ 8 = omega arith in let h : x < 2 ^ (m + (8 - m)) = rw e hx in shr_lt m (8 - m) h

  sum_lt : sum < 2 ^ (m + k)
  sum_lt = rw pow-add (digits_lt kept_lt (mod-lt v (pow_pos k)))

  byte_lt : sum * 2 ^ (8 - m - k) < 256
  byte_lt = let e : m + k + (8 - m - k) ≡ 8 = omega arith in rw e at (shl_lt (m + k) (8 - m - k) sum_lt)

  -- nothing is shifted out
  stored_is : stored x m k v ≡ sum * 2 ^ (8 - m - k)
  stored_is =
      rw (shl_whole kept m k 64 kept_lt (omega arith), one_shl k 64 (omega arith), shl_whole sum (m + k) (8 - m - k) 64 sum_lt (omega arith))

  pub byte_small : stored x m k v < 256
  byte_small = rw stored_is byte_lt

  pub byte_is : stored x m k v ≡ put_part x m k v
  unfolding put_part
  byte_is = stored_is ∙ rw (mod-eq_of_lt kept_lt)

-- ---- a field, part by part

pub bits-split : (t k v : ℕ) → bits (t + k) v ≡ bits t (v / 2 ^ k) ++ bits k v
unfolding bits
bits-split zero k v = let e : 0 + k ≡ k = omega arith in rw e
bits-split (suc t) k v =
    let e : suc t + k ≡ suc (t + k) = omega arith in
    let f : t + k ≡ k + t = omega arith in
    ap (λ (w : ℕ). bits w v) e
    ∙ bits-suc (t + k) v
    ∙ ap₂ (λ (b : Bool) (l : List Bool). b ∷ l) (ap odd (rw f (sym (shr-shr v k t)))) (bits-split t k v)
