-- Bits put into bytes one after the other, as the writer does it: the bits before the place are kept, and those after it, to the byte's end, are 0.
use Rattle.std.specs.Prelude.{Bool, List, [], ◌∷◌, ℕ, ◌+◌, ◌-◌, ◌*◌, ◌/◌, ◌%◌, ◌^◌, get_or, set}
use Rattle.rules.specs.Bits.{bit}

-- a byte that keeps its first m bits, has b next and zeros after it
unfoldable pub put_in : ℕ → ℕ → ℕ → ℕ
put_in x m b = (x / 2 ^ (8 - m) % 2 ^ m * 2 + b) * 2 ^ (7 - m)

-- b put at bit `at`
unfoldable pub put_bit : List ℕ → ℕ → ℕ → List ℕ
put_bit out at b = set out (at / 8) (put_in (get_or out (at / 8) 0) (at % 8) b)

-- bits put from bit `at` on
unfoldable pub put_bits : List ℕ → ℕ → List Bool → List ℕ
put_bits out at [] = out
put_bits out at (b ∷ bs) = put_bits (put_bit out at (bit b)) (at + 1) bs
