-- Four fields in a row, the header's or an ask's: reading what was written, and writing what was read. Assumes nothing.
use mathlib.Core.Path.{◌≡◌, sym, ap, ◌∙◌}
use mathlib.Core.Bool.{Bool}
use mathlib.Core.List.{List, ◌++◌, append_assoc}
use Prim.Native.Nat.{ℕ, ◌+◌, ◌-◌, ◌^◌, ◌≤◌, ◌<◌}
use native.Mathlib.Omega.{arith}
use lib.ListN.{length, take, drop, length-append, length-drop}
use lib.Seq.{take_at, drop_at, length-take-le, drop-drop, take-add}
use Rattle.rules.specs.Bits.{bits, number}
use Rattle.laws.proofs.Bits.{length-bits, number-bits_lt, bits_of_number}

-- the field of w bits in front: its number, and what follows it
pub front : (w v : ℕ) (rest : List Bool) → v < 2 ^ w → number (take w (bits w v ++ rest)) ≡ v
front w v rest h = ap number (take_at (bits w v) rest w (length-bits w v)) ∙ number-bits_lt w v h

pub past_field : (w v : ℕ) (rest : List Bool) → drop w (bits w v ++ rest) ≡ rest
past_field w v rest = drop_at (bits w v) rest w (length-bits w v)

-- bits that are taken out and written again
pub again : (w : ℕ) (bs : List Bool) → w ≤ length bs → bits w (number (take w bs)) ≡ take w bs
again w bs h = bits_of_number w (take w bs) (length-take-le w bs h)

-- a number that was raised by 1 and lowered
pub less_one : (x : ℕ) → x + 1 - 1 ≡ x
less_one x = omega arith

module _ (w₁ w₂ w₃ w₄ : ℕ) where
  abbrev pub row : ℕ → ℕ → ℕ → ℕ → List Bool
  row a b c d = bits w₁ a ++ (bits w₂ b ++ (bits w₃ c ++ bits w₄ d))

  pub length-row : (a b c d : ℕ) → length (row a b c d) ≡ w₁ + w₂ + w₃ + w₄
  length-row a b c d = simp (length-append, length-bits) (omega arith)

  module _ (a b c d : ℕ) (rest : List Bool) where
    abbrev whole : List Bool
    whole = row a b c d ++ rest

    past_1 : drop w₁ whole ≡ bits w₂ b ++ (bits w₃ c ++ (bits w₄ d ++ rest))
    past_1 = simp append_assoc (past_field w₁ a (bits w₂ b ++ (bits w₃ c ++ (bits w₄ d ++ rest))))

    past_2 : drop (w₁ + w₂) whole ≡ bits w₃ c ++ (bits w₄ d ++ rest)
    past_2 = sym (drop-drop w₂ w₁ whole) ∙ ap (drop w₂) past_1 ∙ past_field w₂ b (bits w₃ c ++ (bits w₄ d ++ rest))

    past_3 : drop (w₁ + w₂ + w₃) whole ≡ bits w₄ d ++ rest
    past_3 = sym (drop-drop w₃ (w₁ + w₂) whole) ∙ ap (drop w₃) past_2 ∙ past_field w₃ c (bits w₄ d ++ rest)

    pub row_past : drop (w₁ + w₂ + w₃ + w₄) (row a b c d ++ rest) ≡ rest
    row_past = sym (drop-drop w₄ (w₁ + w₂ + w₃) whole) ∙ ap (drop w₄) past_3 ∙ past_field w₄ d rest

    pub row_1 : a < 2 ^ w₁ → number (take w₁ (row a b c d ++ rest)) ≡ a
    row_1 h = simp append_assoc (front w₁ a (bits w₂ b ++ (bits w₃ c ++ (bits w₄ d ++ rest))) h)

    pub row_2 : b < 2 ^ w₂ → number (take w₂ (drop w₁ (row a b c d ++ rest))) ≡ b
    row_2 h = ap (λ (l : List Bool). number (take w₂ l)) past_1 ∙ front w₂ b (bits w₃ c ++ (bits w₄ d ++ rest)) h

    pub row_3 : c < 2 ^ w₃ → number (take w₃ (drop (w₁ + w₂) (row a b c d ++ rest))) ≡ c
    row_3 h = ap (λ (l : List Bool). number (take w₃ l)) past_2 ∙ front w₃ c (bits w₄ d ++ rest) h

    pub row_4 : d < 2 ^ w₄ → number (take w₄ (drop (w₁ + w₂ + w₃) (row a b c d ++ rest))) ≡ d
    row_4 h = ap (λ (l : List Bool). number (take w₄ l)) past_3 ∙ front w₄ d rest h

  -- four fields that are read and written again
  pub row_again : (bs : List Bool) → w₁ + w₂ + w₃ + w₄ ≤ length bs
      → row (number (take w₁ bs)) (number (take w₂ (drop w₁ bs))) (number (take w₃ (drop (w₁ + w₂) bs)))
      (number (take w₄ (drop (w₁ + w₂ + w₃) bs)))
      ≡ take (w₁ + w₂ + w₃ + w₄) bs
  row_again bs h =
      rw (
        again w₁ bs (omega arith),
        again w₂ (drop w₁ bs) (rw length-drop (omega arith)),
        again w₃ (drop (w₁ + w₂) bs) (rw length-drop (omega arith)),
        again w₄ (drop (w₁ + w₂ + w₃) bs) (rw length-drop (omega arith)),
      )
      (rw (take-add (w₁ + w₂ + w₃) w₄ bs, take-add (w₁ + w₂) w₃ bs, take-add w₁ w₂ bs) (simp append_assoc))
