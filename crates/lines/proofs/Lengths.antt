-- The lengths of the lines. Assumes nothing.
use Prim.Native.Nat.{ℕ, ◌+◌}
use native.Mathlib.Omega.{arith}
use mathlib.Core.Path.{◌≡◌, sym, ap, ◌∙◌}
use mathlib.Core.List.{List}
use lib.ListN.{length, length-append}
use Rattle.rules.specs.Lines.{part, parts, pairs, set_line, found_line, ask_refused_line, near_line, trail_line, refused_line}
use Rattle.lines.specs.Placing.{three_lines, Digits, PartLength}
use Rattle.lines.proofs.Digits.{length_part}

pub part-length_of : {x r : ℕ} → Digits x r → PartLength x (1 + r)
part-length_of {x} {r} h = record { is = ap (λ (n : ℕ). 1 + n) h.is ∙ sym (length_part x); few = omega (arith, h.few) }

-- ---- the lines

pub set-length : (n d asks : ℕ) → length (set_line n d asks) ≡ 4 + length (part n) + length (part d) + length (part asks)
unfolding set_line
set-length n d asks = simp length-append (omega arith)

pub refused-length : (refusal : ℕ) → length (refused_line refusal) ≡ 8 + length (part refusal)
unfolding refused_line
refused-length refusal = simp length-append (omega arith)

pub ask-refused-length : (ask refusal : ℕ) → length (ask_refused_line ask refusal) ≡ 12 + length (part ask) + length (part refusal)
unfolding ask_refused_line
ask-refused-length ask refusal = simp length-append (omega arith)

pub found-length :
    (ask found seen walked : ℕ) →
    length (found_line ask found seen walked) ≡ 22 + length (part ask) + length (part found) + length (part seen) + length (part walked)
unfolding found_line
found-length ask found seen walked = simp length-append (omega arith)

pub near_length : (ids distances : List ℕ) → length (near_line ids distances) ≡ 5 + length (pairs ids distances)
unfolding near_line
near_length ids distances = simp length-append (omega arith)

pub trail-length : (ids : List ℕ) → length (trail_line ids) ≡ 6 + length (parts ids)
unfolding trail_line
trail-length ids = simp length-append (omega arith)

-- ---- the three lines of an ask

module _ (ask found seen walked : ℕ) (ids distances trail : List ℕ) where
  pub three-length :
      length (three_lines ask found seen walked ids distances trail)
      ≡ length (found_line ask found seen walked) + (length (near_line ids distances) + length (trail_line trail))
  unfolding three_lines
  three-length = simp length-append
