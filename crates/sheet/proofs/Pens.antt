-- Pens that put bits one after the other. Assumes nothing.
use Rattle.std.proofs.Common.{◌≡◌, ℕ, ◌+◌, ◌-◌, ◌*◌, ◌/◌, ◌%◌, ◌^◌, ◌≤◌, ◌<◌, true, Bool, List, [], ◌∷◌, ◌++◌, length, take, get_or, ℤ, pos, negsuc, sym, ap, refl, ◌∙◌, arith, length-append, append_assoc, append-nil}
use Rattle.std.proofs.lemmas.List.{take_more}
use Rattle.std.proofs.Math.ListN.{set, length-set}
use mir.Syntax.{w8}
use mir.Val.{SFits, to_z, of_z}
use mir.ValLaws.{to_z-of_z}
use lib.Pow.{shr-shr}
use lib.Seq.{length-take-le, take_all}
use native.Mathlib.Nat.{div-one, mul-le-mul_right}
use Rattle.rules.specs.Bits.{bits, all_fit, twos, value_bits}
use Rattle.laws.proofs.Bits.{length-bits}
use Rattle.laws.proofs.Values.{length-value_bits, fit_at}
use Rattle.sheet.proofs.Signs.{bits_eight}
use Rattle.sheet.specs.declared.put.Pen.{Pen}
use Rattle.rules.specs.Sheet.{number_bits}
use Rattle.sheet.specs.declared.Numbers.{Numbers}
use Rattle.sheet.specs.Answers.{row_of}
use Rattle.sheet.specs.Put.{put_bits}
use Rattle.sheet.specs.Pen.{Puts, Room}
use Rattle.sheet.proofs.Putting.{put_bits-append, bits-split, put_part, put-part-some, stored, byte_is}

-- a pen that has put bits, and then more bits
pub puts-append : (a b c : Pen) (u v : List Bool) → Puts a b u → Puts b c v → Puts a c (u ++ v)
puts-append a b c u v p q =
    record {
      same = q.same ∙ p.same;
      long = q.long ∙ p.long;
      next = rw length-append (omega (arith, p.next, q.next));
      out = q.out ∙ rw (p.next, p.out) (sym (put_bits-append a.out.now a.next u v));
    }

-- what room it has left
pub room_left : (a b : Pen) (u : List Bool) (n k : ℕ) → Puts a b u → Room a n → length u + k ≤ n → Room b k
room_left a b u n k p r h =
    record { room = omega (arith, p.next, p.long, r.room); small = omega (arith, p.next, r.small) }

-- no bits
pub puts-none : (a : Pen) → Puts a a []
unfolding put_bits
puts-none a = record { same = refl; long = refl; next = omega arith; out = refl }

-- where it stands
pub moved_by : (a b : Pen) (u : List Bool) {k : ℕ} → Puts a b u → length u ≡ k → b.next ≡ a.next + k
moved_by a b u p e = p.next ∙ ap (λ (n : ℕ). a.next + n) e

-- four fields in a row
module _ (a b c d e : Pen) (w₁ w₂ w₃ w₄ v₁ v₂ v₃ v₄ : ℕ) where
  pub puts_four : Puts a b (bits w₁ v₁) → Puts b c (bits w₂ v₂) → Puts c d (bits w₃ v₃) → Puts d e (bits w₄ v₄)
      → Puts a e (bits w₁ v₁ ++ (bits w₂ v₂ ++ (bits w₃ v₃ ++ bits w₄ v₄)))
  puts_four p q r s = puts-append a b e _ _ p (puts-append b c e _ _ q (puts-append c d e _ _ r s))

-- ---- a part of a byte: x is the byte that the next bit lies in, as it was, and what is stored is computed from it

pub puts_part : (a b : Pen) (k v : ℕ) → 1 ≤ k → a.next % 8 + k ≤ 8 → Room a k → {x : ℕ} → x ≡ get_or a.out.now (a.next / 8) 0 → x < 256
    → b.out.ghost_name ≡ a.out.ghost_name → b.next ≡ a.next + k → b.out.now ≡ set a.out.now (a.next / 8) (stored x (a.next % 8) k v)
    → Puts a b (bits k v)
puts_part a b k v some inside r {x} is small same next out =
    record {
      same = same;
      long = ap length out ∙ length-set a.out.now (a.next / 8) (stored x (a.next % 8) k v);
      next = next ∙ ap (λ (n : ℕ). a.next + n) (sym (length-bits k v));
      out =
          out ∙ ap (set a.out.now (a.next / 8)) (byte_is x (a.next % 8) k v small some inside)
          ∙ ap (λ (y : ℕ). set a.out.now (a.next / 8) (put_part y (a.next % 8) k v)) is
          ∙ sym (put-part-some a.out.now a.next k v some inside (omega (arith, r.room)));
    }

-- ---- a field, part by part: k of its w bits are left

pub field_none : (a : Pen) (w v : ℕ) → Puts a a (bits (w - w) (v / 2 ^ w))
unfolding bits
field_none a w v = let e : w - w ≡ 0 = omega arith in rw (e, bits) (puts-none a)

pub field_room : (a b : Pen) (w k t v : ℕ) → k ≤ w → t ≤ k → Puts a b (bits (w - k) (v / 2 ^ k)) → Room a w → Room b t
field_room a b w k t v few some p r = room_left a b (bits (w - k) (v / 2 ^ k)) w t p r (rw length-bits (omega arith))

pub field_more : (a b c : Pen) (w k t v : ℕ) → k ≤ w → t ≤ k → Puts a b (bits (w - k) (v / 2 ^ k)) → Puts b c (bits t (v / 2 ^ (k - t)))
    → Puts a c (bits (w - (k - t)) (v / 2 ^ (k - t)))
field_more a b c w k t v few some p q =
    let V = v / 2 ^ (k - t) in
    let m : w - (k - t) ≡ (w - k) + t = omega arith in
    let e : (k - t) + t ≡ k = omega arith in
    let front : V / 2 ^ t ≡ v / 2 ^ k = shr-shr v (k - t) t ∙ ap (λ (n : ℕ). v / 2 ^ n) e in
    rw (m, bits-split (w - k) t V, front) (puts-append a b c (bits (w - k) (v / 2 ^ k)) (bits t V) p q)

pub field_whole : (a b : Pen) (w k v : ℕ) → k ≤ 0 → Puts a b (bits (w - k) (v / 2 ^ k)) → Puts a b (bits w v)
field_whole a b w k v z p =
    let e : k ≡ 0 = omega arith in
    let f : w - 0 ≡ w = omega arith in
    rw (e, f, div-one v) at p

-- ---- values, one after the other: the first i are put

value_bits-append : (c : ℕ) (xs ys : List ℤ) → value_bits c (xs ++ ys) ≡ value_bits c xs ++ value_bits c ys
unfolding value_bits
value_bits-append c [] ys = refl
value_bits-append c (x ∷ xs) ys =
    ap (λ (l : List Bool). bits c (twos c x) ++ l) (value_bits-append c xs ys) ∙ sym (append_assoc (bits c (twos c x)) (value_bits c xs) (value_bits c ys))

value_bits-one : (c : ℕ) (z : ℤ) → value_bits c (z ∷ []) ≡ bits c (twos c z)
unfolding value_bits
value_bits-one c z = append-nil (bits c (twos c z))

twos_eight : (z : ℤ) → of_z w8 z ≡ twos 8 z
unfolding twos
twos_eight (pos n) = refl
twos_eight (negsuc n) = refl

module _ (c : ℕ) (zs : List ℤ) (few : c ≤ 8) where
  pub values_none : (a : Pen) → Puts a a (value_bits c (take 0 zs))
  unfolding value_bits
  values_none a = puts-none a

  pub values_whole : (a b : Pen) (i : ℕ) → length zs ≤ i → Puts a b (value_bits c (take i zs)) → Puts a b (value_bits c zs)
  values_whole a b i end p = rw (take_all i zs end) at p

  module _ (a b : Pen) (i : ℕ) (here : i < length zs) (p : Puts a b (value_bits c (take i zs))) where
    pub values_room : Room a (length zs * c) → Room b c
    values_room r =
        let l : length (take i zs) ≡ i = length-take-le i zs (omega arith) in
        let m : (i + 1) * c ≤ length zs * c = mul-le-mul_right c (let h : i + 1 ≤ length zs = omega arith in h) in
        room_left a b (value_bits c (take i zs)) (length zs * c) c p r (rw (length-value_bits, l) (omega arith))

    -- a value comes to the code through its bits
    pub values_more : (d : Pen) (v : ℕ) → all_fit c zs ≡ true → SFits w8 (get_or zs i (pos 0)) → v ≡ of_z w8 (to_z w8 (of_z w8 (get_or zs i (pos 0))))
        → Puts b d (bits c v)
        → Puts a d (value_bits c (take (i + 1) zs))
    values_more d v fit r is q =
        let z = get_or zs i (pos 0) in
        let two : v ≡ twos 8 z = is ∙ ap (of_z w8) (to_z-of_z w8 z r) ∙ twos_eight z in
        let e : bits c v ≡ value_bits c (z ∷ []) = ap (bits c) two ∙ bits_eight c z few (fit_at c zs i fit here) ∙ sym (value_bits-one c z) in
        rw (take_more zs i (pos 0) here, value_bits-append) (puts-append a b d (value_bits c (take i zs)) (value_bits c (z ∷ [])) p (rw e at q))

-- ---- one ask: its numbers, then its query

number_bits_of : (a : Numbers) → bits 7 a.start ++ (bits 7 (a.width - 1) ++ (bits 7 (a.k - 1) ++ bits 15 a.threshold)) ≡ number_bits (row_of a)
unfolding number_bits
number_bits_of a = refl

module _ (a b c d e f : Pen) (n : Numbers) {row : List ℕ} (is : row_of n ≡ row) {s w k t : ℕ}
    (es : s ≡ n.start) (ew : w ≡ n.width - 1) (ek : k ≡ n.k - 1) (et : t ≡ n.threshold) where
  pub ask_puts : (u : List Bool) → Puts a b (bits 7 s) → Puts b c (bits 7 w) → Puts c d (bits 7 k) → Puts d e (bits 15 t) → Puts e f u
      → Puts a f (number_bits row ++ u)
  ask_puts u p q r o v =
      let four = puts_four a b c d e 7 7 7 15 s w k t p q r o in
      puts-append a e f _ u (rw (es, ew, ek, et, number_bits_of n, is) at four) v
