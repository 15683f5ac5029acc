-- The whole sheet: its bits put one after the other. Assumes nothing.
use Rattle.std.proofs.Common.{◌≡◌, ℕ, ◌+◌, ◌-◌, ◌*◌, ◌≤◌, List, ◌++◌, length, drop, refl, sym, ap, ◌∙◌, arith, length-append}
use Rattle.rules.specs.Bits.{bits, value_bits, byte_count, bytes_of}
use Rattle.rules.specs.Sheet.{Contents, head_bits, sheet_bits, sheet, sheet_length, bit_count}
use Rattle.rules.specs.Outcome.{over}
use Rattle.laws.proofs.Values.{length-value_bits}
use Rattle.laws.proofs.Packing.{length-bytes_of}
use Rattle.laws.proofs.ReadBack.{length-head_bits, length-sheet_bits}
use Rattle.laws.proofs.Writable.{Writable, few_bits}
use Rattle.sheet.specs.declared.put.Pen.{Pen}
use Rattle.sheet.specs.Put.{put_bits}
use Rattle.sheet.specs.Pen.{Puts, Room, asks_in}
use Rattle.sheet.proofs.Pens.{puts-append, puts_four}
use Rattle.sheet.proofs.Bytewise.{put_all}

-- the sheet's bits, part by part
pub sheet_long : (k : Contents) → length (sheet_bits k) ≡ 24 + length k.vectors * k.c + length (asks_in k)
unfolding sheet_bits
sheet_long k =
    rw (length-append, length-append, length-head_bits, length-value_bits) (omega arith)

head_is : (k : Contents) → bits 7 (k.n - 1) ++ (bits 6 (k.d - 1) ++ (bits 3 (k.c - 1) ++ bits 8 k.asks)) ≡ head_bits k.n k.d k.c k.asks
unfolding head_bits
head_is k = refl

module _ (k : Contents) (a b c d e f g : Pen) where
  pub sheet_puts : Puts a b (bits 7 (k.n - 1)) → Puts b c (bits 6 (k.d - 1)) → Puts c d (bits 3 (k.c - 1)) → Puts d e (bits 8 k.asks)
      → Puts e f (value_bits k.c k.vectors) → Puts f g (asks_in k) → Puts a g (sheet_bits k)
  unfolding sheet_bits
  sheet_puts p q r s v t =
      puts-append a e g _ _ (rw (head_is k) at (puts_four a b c d e 7 6 3 8 (k.n - 1) (k.d - 1) (k.c - 1) k.asks p q r s))
      (puts-append e f g _ _ v t)

pub sheet_length_is : (k : Contents) → Writable k → sheet_length k.n k.d k.c k.asks ≡ length (sheet k)
unfolding sheet sheet_length
sheet_length_is k w = sym (length-bytes_of (sheet_bits k) ∙ ap byte_count (length-sheet_bits k w.vectors_are w.queries_are))

-- there is room for the sheet in an output of as many bytes
module _ (k : Contents) (w : Writable k) (out : List ℕ) (room : sheet_length k.n k.d k.c k.asks ≤ length out) where
  bits_are : length (sheet_bits k) ≡ bit_count k.n k.d k.c k.asks
  bits_are = length-sheet_bits k w.vectors_are w.queries_are

  bytes_are : byte_count (length (sheet_bits k)) ≤ length out
  unfolding sheet_length
  bytes_are = rw bits_are room

  pub sheet_room : (p : Pen) → p.next ≡ 0 → p.out.now ≡ out → Room p (length (sheet_bits k))
  unfolding byte_count
  sheet_room p start is =
      let l = ap length is in
      record {
        room = omega (arith, bytes_are);
        small = omega (arith, bits_are, few_bits k.n k.d k.c k.asks w.few-points w.few-coordinates w.few-width w.few-asks);
      }

  -- bits put from the start are the sheet, and the bytes past it stay
  pub sheet_over : put_bits out 0 (sheet_bits k) ≡ over (sheet k) out
  unfolding sheet over
  sheet_over =
      put_all (sheet_bits k) out bytes_are ∙ ap (λ (n : ℕ). bytes_of (sheet_bits k) ++ drop n out) (sym (length-bytes_of (sheet_bits k)))
