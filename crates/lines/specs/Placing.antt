-- Bytes at a place of a lent buffer, and where they end.
use Rattle.std.specs.Prelude.{ℕ, ◌+◌, ◌≤◌, ◌≡◌, true, false, List, ◌++◌, leb, length, take, drop, Result, Ok, Err}
use Rattle.rules.specs.Lines.{decimal, part, found_line, near_line, trail_line}
use Rattle.lines.specs.declared.TooShort.{TooShort}

abbrev pub too_short : TooShort
too_short = record {}

-- where m bytes from `at` on end, or that they end past the limit
unfoldable pub ending : ℕ → ℕ → ℕ → Result ℕ TooShort
ending at m limit = elim (leb (at + m) limit) [ true ↦ Ok (at + m) | false ↦ Err too_short ]

-- the buffer with bytes from `at` on, and its others as they were
unfoldable pub put : ℕ → List ℕ → List ℕ → List ℕ
put at l old = take at old ++ (l ++ drop (at + length l) old)

-- bytes that are placed where there is room for all of them: the answer, and the buffer afterwards
unfoldable pub placed_answer : ℕ → List ℕ → List ℕ → Result ℕ TooShort
placed_answer at l old = ending at (length l) (length old)

unfoldable pub placed_after : ℕ → List ℕ → List ℕ → List ℕ
placed_after at l old = elim (leb (at + length l) (length old)) [ true ↦ put at l old | false ↦ old ]

-- the lines of an ask that is answered
unfoldable pub three_lines : ℕ → ℕ → ℕ → ℕ → List ℕ → List ℕ → List ℕ → List ℕ
three_lines ask found seen walked ids distances trail = found_line ask found seen walked ++ (near_line ids distances ++ trail_line trail)

-- r is how many decimal digits x has; a number of 64 bits has 20 at most
pub record Digits (x r : ℕ) : Type 0 where
  pub is : r ≡ length (decimal x)
  pub few : r ≤ 20

-- the same with the space before them
pub record PartLength (x r : ℕ) : Type 0 where
  pub is : r ≡ length (part x)
  pub few : r ≤ 21
