-- Bits put from the start are their bytes, filled with zero bits, and what stood behind them stays. Assumes nothing.
use mathlib.Core.Path.{◌≡◌, refl, sym, ap, ◌∙◌}
use mathlib.Core.Bool.{Bool}
use mathlib.Core.List.{List, [], ◌∷◌, ◌++◌, append_assoc, append-nil}
use mathlib.Core.Logic.{⊎_elim}
use Prim.Native.Nat.{ℕ, suc, ◌+◌, ◌-◌, ◌*◌, ◌/◌, ◌%◌, ◌^◌, ◌≤◌, ◌<◌}
use native.Mathlib.Nat.{mod-one, mod-eq_of_lt}
use native.Mathlib.Omega.{arith}
use lib.ListN.{length, take, drop, get_or, length-append, take-append-drop, length-drop, drop_of_length-le}
use lib.Seq.{drop-cons, take_all, set_at, get_or_at, length-take-le}
use lib.Pow.{high, pow_pos}
use Rattle.rules.specs.Bits.{bit, number, zeros, packed, byte_count, filled, bytes_of}
use Rattle.laws.proofs.Tests.{le_or_lt}
use Rattle.laws.proofs.Bits.{number_append, number-zeros, number_lt, length-zeros}
use Rattle.laws.proofs.Packing.{length-packed, packed-append}
use Rattle.sheet.specs.Put.{put_in, put_bit, put_bits}

bytes_of-whole : (j : ℕ) (A : List Bool) → length A ≡ j * 8 → bytes_of A ≡ packed j A
unfolding bytes_of filled byte_count zeros
bytes_of-whole j A e =
    let a : (j * 8 + 7) / 8 ≡ j = omega arith in
    let b : j * 8 - j * 8 ≡ 0 = omega arith in
    rw (e, a, b) (ap (packed j) (append-nil A))

packed_one : (bs : List Bool) → packed 1 bs ≡ number (take 8 bs) ∷ []
unfolding packed
packed_one bs = refl

bytes_of-last : (j : ℕ) (A r : List Bool) → length A ≡ j * 8 → 0 < length r → length r ≤ 8
    → bytes_of (A ++ r) ≡ packed j A ++ (number (r ++ zeros (8 - length r)) ∷ [])
unfolding bytes_of filled byte_count
bytes_of-last j A r e h l =
    let a : (length A + length r + 7) / 8 ≡ j + 1 = omega arith in
    let b : (j + 1) * 8 - (length A + length r) ≡ 8 - length r = omega arith in
    let t : take 8 (r ++ zeros (8 - length r)) ≡ r ++ zeros (8 - length r) = take_all 8 _ (rw (length-append, length-zeros) (omega arith)) in
    rw (length-append A r, a, b)
    (ap (packed (j + 1)) (append_assoc A r (zeros (8 - length r)))
    ∙ packed-append j 1 A (r ++ zeros (8 - length r)) e
    ∙ ap (λ (x : List ℕ). packed j A ++ x) (packed_one (r ++ zeros (8 - length r)))
    ∙ ap (λ (x : List Bool). packed j A ++ (number x ∷ [])) t)

snoc_number : (r : List Bool) (b : Bool) → number (r ++ (b ∷ [])) ≡ number r * 2 + bit b
unfolding number
snoc_number r b = number_append r (b ∷ []) ∙ omega arith

-- the byte that the next bit goes into, once whole bytes A and m more bits r are put: what stands in it, and behind it
module _ (j : ℕ) (A r : List Bool) (out : List ℕ) (e : length A ≡ j * 8) (l : length r < 8) (room : j < length out) where
  abbrev State : Type 0
  State =
      (o : ℕ)
      × (bytes_of (A ++ r) ++ drop (byte_count (length (A ++ r))) out ≡ packed j A ++ (o ∷ drop (suc j) out))
      × (o / 2 ^ (8 - length r) % 2 ^ length r ≡ number r)

  state_none : length r ≤ 0 → State
  unfolding byte_count number
  state_none z =
      let a : (j * 8 + 7) / 8 ≡ j = omega arith in
      rw (drop_of_length-le r {i = 0} z, append-nil A) (
        get_or out j 0,
        rw (bytes_of-whole j A e, e, a, drop-cons out j 0 room),
        mod-one (get_or out j 0 / 2 ^ 8),
      )

  state_some : 0 < length r → State
  unfolding byte_count
  state_some h =
      let m = length r in
      let a : (length A + m + 7) / 8 ≡ suc j = omega arith in
      let v : number (r ++ zeros (8 - m)) ≡ number r * 2 ^ (8 - m) + 0
      = number_append r (zeros (8 - m)) ∙ rw (length-zeros, number-zeros) in (
        number (r ++ zeros (8 - m)),
        rw (bytes_of-last j A r e h (omega arith), length-append A r, a) (append_assoc (packed j A) _ (drop (suc j) out)),
        ap (λ (x : ℕ). x / 2 ^ (8 - m) % 2 ^ m) v
            ∙ ap (λ (x : ℕ). x % 2 ^ m) (high (number r) (8 - m) (pow_pos (8 - m)))
            ∙ mod-eq_of_lt (number_lt r),
      )

  state : State
  state = ⊎_elim state_none state_some (le_or_lt (length r) 0)

  -- the next bit
  next : (b : Bool) → put_bit (bytes_of (A ++ r) ++ drop (byte_count (length (A ++ r))) out) (length (A ++ r)) (bit b)
      ≡ bytes_of (A ++ r ++ (b ∷ [])) ++ drop (byte_count (length (A ++ r ++ (b ∷ [])))) out
  unfolding put_bit put_in byte_count
  next b =
      let m = length r in
      let s = state in
      let pre = packed j A in
      let D = drop (suc j) out in
      let q : (length A + m) / 8 ≡ j = omega arith in
      let t : (length A + m) % 8 ≡ m = omega arith in
      let a : (length A + m + 1 + 7) / 8 ≡ suc j = omega arith in
      let z : length (r ++ (b ∷ [])) ≡ m + 1 = length-append r (b ∷ []) in
      let k : 8 - (m + 1) ≡ 7 - m = omega arith in
      let v : (s.0 / 2 ^ (8 - m) % 2 ^ m * 2 + bit b) * 2 ^ (7 - m) ≡ number (r ++ (b ∷ []) ++ zeros (8 - length (r ++ (b ∷ []))))
      = rw (s.2, z, k, number_append (r ++ (b ∷ [])) (zeros (7 - m)), length-zeros, number-zeros, snoc_number r b) (omega arith) in
      rw (s.1, length-append (A ++ r) (b ∷ []), length-append A r, q, t, get_or_at pre s.0 D 0 j (length-packed j A), a)
      (set_at pre s.0 D _ j (length-packed j A)
      ∙ ap (λ (x : ℕ). pre ++ (x ∷ D)) v
      ∙ sym (append_assoc pre _ D)
      ∙ ap (λ (x : List ℕ). x ++ D)
      (sym (bytes_of-last j A (r ++ (b ∷ [])) e (rw z (omega arith)) (rw z (omega arith))) ∙ ap bytes_of (sym (append_assoc A r (b ∷ [])))))

-- any bits so far
pub put_next : (bs : List Bool) (b : Bool) (out : List ℕ) → length bs / 8 < length out
    → put_bit (bytes_of bs ++ drop (byte_count (length bs)) out) (length bs) (bit b)
    ≡ bytes_of (bs ++ (b ∷ [])) ++ drop (byte_count (length (bs ++ (b ∷ [])))) out
put_next bs b out room =
    let j = length bs / 8 in
    let u : take (j * 8) bs ++ drop (j * 8) bs ≡ bs = take-append-drop (j * 8) bs in
    let e : length (take (j * 8) bs) ≡ j * 8 = length-take-le (j * 8) bs (omega arith) in
    let l : length (drop (j * 8) bs) < 8 = rw (length-drop (j * 8) bs) (omega arith) in
    rw u at (next j (take (j * 8) bs) (drop (j * 8) bs) out e l room b)

pub put_more : (bs cs : List Bool) (out : List ℕ) → byte_count (length bs + length cs) ≤ length out
    → put_bits (bytes_of bs ++ drop (byte_count (length bs)) out) (length bs) cs
    ≡ bytes_of (bs ++ cs) ++ drop (byte_count (length (bs ++ cs))) out
unfolding put_bits byte_count
put_more bs [] out room = rw (append-nil bs)
put_more bs (b ∷ cs) out room =
    let e : length (bs ++ (b ∷ [])) ≡ length bs + 1 = length-append bs (b ∷ []) in
    ap (λ (o : List ℕ). put_bits o (length bs + 1) cs) (put_next bs b out (omega arith))
    ∙ ap (λ (p : ℕ). put_bits (bytes_of (bs ++ (b ∷ [])) ++ drop (byte_count (length (bs ++ (b ∷ [])))) out) p cs) (sym e)
    ∙ put_more (bs ++ (b ∷ [])) cs out (rw e (omega arith))
    ∙ ap (λ (l : List Bool). bytes_of l ++ drop (byte_count (length l)) out) (append_assoc bs (b ∷ []) cs)

-- BITS PUT FROM THE START ARE THEIR BYTES, AND THE BYTES PAST THEM STAY
pub put_all : (bs : List Bool) (out : List ℕ) → byte_count (length bs) ≤ length out
    → put_bits out 0 bs ≡ bytes_of bs ++ drop (byte_count (length bs)) out
unfolding bytes_of byte_count packed
put_all bs out room = put_more [] bs out (let e : 0 + length bs ≡ length bs = omega arith in rw e room)
