-- Laws of packing bits into bytes. Assumes nothing.
use mathlib.Core.Path.{◌≡◌, refl, ap, ap₂, ◌∙◌}
use mathlib.Core.Bool.{Bool}
use mathlib.Core.List.{List, [], ◌∷◌, ◌++◌}
use Prim.Native.Nat.{ℕ, zero, suc, ◌+◌, ◌*◌}
use native.Mathlib.Omega.{arith}
use lib.ListN.{length, take, drop, length-append, length-drop, take-append-drop}
use lib.Seq.{take_at, drop_at, length-take-le, take-append-le, drop-append-le}
use Rattle.rules.specs.Bits.{bits, number, packed, unpacked, byte_count, filled, bytes_of, Bytes}
use Rattle.laws.proofs.Bits.{length-bits, number-bits_lt, bits_of_number, length-zeros}

pub length-packed : (n : ℕ) (bs : List Bool) → length (packed n bs) ≡ n
unfolding packed
length-packed zero bs = refl
length-packed (suc n) bs = ap suc (length-packed n (drop 8 bs))

pub length-unpacked : (ys : List ℕ) → length (unpacked ys) ≡ length ys * 8
unfolding unpacked
length-unpacked [] = refl
length-unpacked (y ∷ ys) = rw (length-append (bits 8 y) (unpacked ys), length-bits, length-unpacked ys) (omega arith)

-- n bytes of n * 8 bits have those bits
pub unpacked-packed : (n : ℕ) (bs : List Bool) → length bs ≡ n * 8 → unpacked (packed n bs) ≡ bs
unfolding unpacked packed
unpacked-packed zero [] e = refl
unpacked-packed zero (b ∷ bs) e = absurd (omega arith)
unpacked-packed (suc n) bs e =
    let l : length (take 8 bs) ≡ 8 = length-take-le 8 bs (omega arith) in
    ap₂ (λ (a b : List Bool). a ++ b)
    (bits_of_number 8 (take 8 bs) l)
    (unpacked-packed n (drop 8 bs) (rw (length-drop 8 bs) (omega arith)))
    ∙ take-append-drop 8 bs

-- one byte, at the front
packed-cons : (n : ℕ) (u rest : List Bool) → length u ≡ 8 → packed (suc n) (u ++ rest) ≡ number u ∷ packed n rest
unfolding packed
packed-cons n u rest e = ap₂ (λ (a b : List Bool). number a ∷ packed n b) (take_at u rest 8 e) (drop_at u rest 8 e)

pub packed-unpacked : (ys : List ℕ) → Bytes ys → packed (length ys) (unpacked ys) ≡ ys
unfolding unpacked packed Bytes
packed-unpacked [] h = refl
packed-unpacked (y ∷ ys) h =
    packed-cons (length ys) (bits 8 y) (unpacked ys) (length-bits 8 y)
    ∙ ap₂ (λ (a : ℕ) (r : List ℕ). a ∷ r) (number-bits_lt 8 y (h 0)) (packed-unpacked ys (λ i. h (suc i)))

-- bytes of bits after whole bytes
pub packed-append : (j k : ℕ) (A B : List Bool) → length A ≡ j * 8 → packed (j + k) (A ++ B) ≡ packed j A ++ packed k B
unfolding packed
packed-append zero k [] B e = let z : 0 + k ≡ k = omega arith in rw z
packed-append zero k (a ∷ A) B e = absurd (omega arith)
packed-append (suc j) k A B e =
    let s : suc j + k ≡ suc (j + k) = omega arith in
    ap (λ (n : ℕ). packed n (A ++ B)) s
    ∙ ap₂ (λ (x y : List Bool). number x ∷ packed (j + k) y) (take-append-le 8 A B (omega arith)) (drop-append-le 8 A B (omega arith))
    ∙ ap (λ (r : List ℕ). number (take 8 A) ∷ r) (packed-append j k (drop 8 A) B (rw (length-drop 8 A) (omega arith)))

-- ---- filling

pub length-filled : (bs : List Bool) → length (filled bs) ≡ byte_count (length bs) * 8
unfolding filled byte_count
length-filled bs = rw (length-append, length-zeros) (omega arith)

pub length-bytes_of : (bs : List Bool) → length (bytes_of bs) ≡ byte_count (length bs)
unfolding bytes_of
length-bytes_of bs = length-packed (byte_count (length bs)) (filled bs)

pub unpacked-bytes_of : (bs : List Bool) → unpacked (bytes_of bs) ≡ filled bs
unfolding bytes_of
unpacked-bytes_of bs = unpacked-packed (byte_count (length bs)) (filled bs) (length-filled bs)
