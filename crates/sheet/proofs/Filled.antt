-- A buffer that is filled with values one after the other. Assumes nothing.
use Rattle.std.proofs.Common.{◌≡◌, ℕ, zero, suc, ◌+◌, ◌*◌, ◌^◌, ◌≤◌, ◌<◌, min, Bool, List, [], ◌∷◌, ◌++◌, length, take, drop, ℤ, ap, refl, ◌∙◌, arith}
use Rattle.std.proofs.Math.ListN.{set}
use Rattle.std.proofs.lemmas.List.{take_more_set}
use lib.Seq.{drop-drop}
use native.Mathlib.Nat.{mul-le-mul_right}
use native.Mathlib.Numerals.{add-one}
use mir.Syntax.{w8}
use mir.Val.{SFits, to_z, of_z}
use mir.ValLaws.{to_z-of_z}
use Rattle.rules.specs.Bits.{number, signed, values, unpacked}
use Rattle.rules.specs.Sheet.{field_at}
use Rattle.laws.proofs.Fields.{field_lt}
use Rattle.sheet.specs.Past.{past_at}

-- one value more
values_push : (c i : ℕ) (bs : List Bool) → values c (suc i) bs ≡ values c i bs ++ (signed c (number (take c (drop (i * c) bs))) ∷ [])
unfolding values
values_push c zero bs = let e : 0 * c ≡ 0 = omega arith in rw e
values_push c (suc i) bs =
    let e : suc i * c ≡ c + i * c = omega arith in
    ap (λ (l : List ℤ). signed c (number (take c bs)) ∷ l) (values_push c i (drop c bs) ∙ rw (drop-drop (i * c) c bs, ← e))

-- the first i cells are filled, from bit `at` on, and the next value is read at bit p
pub record Filled (ys : List ℕ) (at c : ℕ) (buffer : List ℤ) (i p : ℕ) : Type 0 where
  pub place : p ≡ at + i * c
  pub cells : take i buffer ≡ values c i (drop at (unpacked ys))

pub filled_none : (ys : List ℕ) (at c : ℕ) (buffer : List ℤ) → Filled ys at c buffer 0 at
unfolding values
filled_none ys at c buffer = record { place = omega arith; cells = refl }

-- u is what is read at p
pub read_small : (ys : List ℕ) (p c : ℕ) {u : ℕ} → c ≤ 8 → u ≡ field_at ys p (min c 16) → u < 2 ^ c
read_small ys p c few is = let e : min c 16 ≡ c = omega arith in rw (is, e) (field_lt ys p c)

pub filled_more : (ys : List ℕ) (at c : ℕ) (buffer : List ℤ) (i p m : ℕ) {u q : ℕ} {v : ℤ} → Filled ys at c buffer i p → length buffer ≡ m → i < m
    → c ≤ 8 → at + m * c < 2 ^ 20 → u ≡ field_at ys p (min c 16) → q ≡ past_at p c → v ≡ signed c u → SFits w8 v
    → Filled ys at c (set buffer i (to_z w8 (of_z w8 v))) (i + 1) q
unfolding field_at
filled_more ys at c buffer i p m {u} {q} {v} f long l few small is next value fits =
    let here : i < length buffer = omega arith in
    let room : suc i * c ≤ m * c = mul-le-mul_right c (let h : suc i ≤ m = omega arith in h) in
    let e : min c 16 ≡ c = omega arith in
    let read : u ≡ number (take c (drop (i * c) (drop at (unpacked ys))))
    = is ∙ rw (e, f.place, drop-drop (i * c) at (unpacked ys)) in
    record {
      place = omega (arith, f.place, next);
      cells =
          rw (to_z-of_z w8 v fits, take_more_set buffer i v here, f.cells, add-one i, values_push c i (drop at (unpacked ys)), value)
          (ap (λ (n : ℕ). values c i (drop at (unpacked ys)) ++ (signed c n ∷ [])) read);
    }
