-- A field of at most 16 bits lies in three bytes, wherever in the first of them it starts. Assumes nothing.
use mathlib.Core.Path.{◌≡◌, sym, ap, ap₂, ◌∙◌}
use mathlib.Core.Bool.{Bool}
use mathlib.Core.List.{List, [], ◌∷◌, ◌++◌, append_assoc}
use Prim.Native.Nat.{ℕ, zero, suc, min, ◌+◌, ◌-◌, ◌*◌, ◌/◌, ◌%◌, ◌^◌, ◌≤◌, ◌<◌}
use native.Mathlib.Nat.{div-add-mod', mod-one}
use native.Mathlib.Omega.{arith}
use lib.ListN.{length, take, drop, get_or, length-append, length-drop}
use lib.Seq.{drop-drop, get_or-drop}
use Rattle.rules.specs.Bits.{bits, number, unpacked, Bytes}
use Rattle.rules.specs.Sheet.{field_at}
use Rattle.laws.proofs.Bits.{length-bits, number_append, number-bits_lt}
use Rattle.laws.proofs.Fields.{number-part, drop-unpacked, part_in, field_end, field-none}
use Rattle.std.proofs.lemmas.Nat.{one_shl}

-- three bytes as one number of 24 bits, and as bits
abbrev pub whole : ℕ → ℕ → ℕ → ℕ
whole a b c = (a * 256 + b) * 256 + c

abbrev three : ℕ → ℕ → ℕ → List Bool
three a b c = bits 8 a ++ (bits 8 b ++ bits 8 c)

length_three : (a b c : ℕ) → length (three a b c) ≡ 24
length_three a b c = simp (length-append, length-bits)

number-three : (a b c : ℕ) → a < 256 → b < 256 → c < 256 → number (three a b c) ≡ whole a b c
number-three a b c ha hb hc =
    rw (
      number_append (bits 8 a) (bits 8 b ++ bits 8 c),
      number_append (bits 8 b) (bits 8 c),
      length-append (bits 8 b) (bits 8 c),
      length-bits 8 b,
      length-bits 8 c,
      number-bits_lt 8 a ha,
      number-bits_lt 8 b hb,
      number-bits_lt 8 c hc,
    )
    (omega arith)

-- a field in three bytes
module _ (f w : ℕ) (in_three : f + w ≤ 24) where
  abbrev cut : ℕ → ℕ
  cut x = x / 2 ^ (24 - f - w) % 2 ^ w

  in_whole : (a b c : ℕ) → a < 256 → b < 256 → c < 256 → number (take w (drop f (three a b c))) ≡ cut (whole a b c)
  in_whole a b c ha hb hc =
      number-part (three a b c) f w (rw (length_three a b c) in_three)
      ∙ ap₂ (λ (n l : ℕ). n / 2 ^ (l - f - w) % 2 ^ w) (number-three a b c ha hb hc) (length_three a b c)

  -- where the sheet ends within the three bytes, those past its end count as 0
  in_front : (zs : List ℕ) → Bytes zs → 1 ≤ w → f + w ≤ length zs * 8
      → number (take w (drop f (unpacked zs))) ≡ cut (whole (get_or zs 0 0) (get_or zs 1 0) (get_or zs 2 0))
  unfolding unpacked Bytes
  in_front [] small some h = absurd (omega arith)
  in_front (a ∷ []) small some h =
      let l : f + w ≤ length (bits 8 a) = rw length-bits h in
      ap number (part_in (bits 8 a) [] f w l ∙ sym (part_in (bits 8 a) (bits 8 0 ++ bits 8 0) f w l))
      ∙ in_whole a 0 0 (small 0) (small 1) (small 2)
  in_front (a ∷ b ∷ []) small some h =
      let l : f + w ≤ length (bits 8 a ++ bits 8 b) = rw (length-append, length-bits, length-bits) h in
      ap (λ (u : List Bool). number (take w (drop f u))) (sym (append_assoc (bits 8 a) (bits 8 b) []))
      ∙ ap number (part_in (bits 8 a ++ bits 8 b) [] f w l ∙ sym (part_in (bits 8 a ++ bits 8 b) (bits 8 0) f w l))
      ∙ ap (λ (u : List Bool). number (take w (drop f u))) (append_assoc (bits 8 a) (bits 8 b) (bits 8 0))
      ∙ in_whole a b 0 (small 0) (small 1) (small 2)
  in_front (a ∷ b ∷ c ∷ zs) small some h =
      let l : f + w ≤ length (three a b c) = rw (length_three a b c) in_three in
      ap (λ (u : List Bool). number (take w (drop f u))) (regroup (bits 8 a) (bits 8 b) (bits 8 c) (unpacked zs))
      ∙ ap number (part_in (three a b c) (unpacked zs) f w l)
      ∙ in_whole a b c (small 0) (small 1) (small 2)
    where
      regroup : (p q r u : List Bool) → p ++ (q ++ (r ++ u)) ≡ (p ++ (q ++ r)) ++ u
      regroup p q r u = sym (append_assoc p (q ++ r) u ∙ ap (λ (x : List Bool). p ++ x) (append_assoc q r u))

-- A FIELD BY DIVISION
pub field_in_three : (ys : List ℕ) (at w : ℕ) → Bytes ys → 1 ≤ w → w ≤ 16 → at + w ≤ length ys * 8
    → field_at ys at w ≡ whole (get_or ys (at / 8) 0) (get_or ys (at / 8 + 1) 0) (get_or ys (at / 8 + 2) 0) / 2 ^ (24 - at % 8 - w) % 2 ^ w
unfolding field_at Bytes
field_in_three ys at w small some few h =
    let i = at / 8 in
    let f = at % 8 in
    let zs = drop i ys in
    let split : i * 8 + f ≡ at = div-add-mod' at 8 in
    let e : drop at (unpacked ys) ≡ drop f (unpacked zs)
    = ap (λ (n : ℕ). drop n (unpacked ys)) (sym split) ∙ sym (drop-drop f (i * 8) (unpacked ys)) ∙ ap (drop f) (drop-unpacked i ys) in
    let l : f + w ≤ length zs * 8 = rw (length-drop i ys) (omega arith) in
    let z : i + 0 ≡ i = omega arith in
    ap (λ (u : List Bool). number (take w u)) e
    ∙ in_front f w (omega arith) zs (λ j. rw (get_or-drop i ys j 0) (small (i + j))) some l
    ∙ rw (get_or-drop i ys 0 0, get_or-drop i ys 1 0, get_or-drop i ys 2 0, z)

-- what the code computes it by: a field ends where the sheet does, and one of no bits is 0
pub field_there : (ys : List ℕ) (at bits : ℕ) → Bytes ys → {w x : ℕ} → w ≡ min (min bits 16) (length ys * 8 - at)
    → x ≡ whole (get_or ys (at / 8) 0) (get_or ys (at / 8 + 1) 0) (get_or ys (at / 8 + 2) 0)
    → x / 2 ^ (24 - at % 8 - w) % (1 * 2 ^ w % 4294967296) ≡ field_at ys at (min bits 16)
field_there ys at bits small {w} {x} there three =
    let few : w ≤ 16 = omega arith in
    let end : field_at ys at w ≡ field_at ys at (min bits 16) = ap (field_at ys at) there ∙ field_end ys at (min bits 16) in
    rw (one_shl w 32 (omega arith), ← end) (go w few (omega arith))
  where
    go : (w : ℕ) → w ≤ 16 → (1 ≤ w → at + w ≤ length ys * 8) → x / 2 ^ (24 - at % 8 - w) % 2 ^ w ≡ field_at ys at w
    go zero few h = mod-one (x / 2 ^ (24 - at % 8 - 0)) ∙ sym (field-none ys at)
    go (suc w) few h = rw three (sym (field_in_three ys at (suc w) small (omega arith) few (h (omega arith))))
