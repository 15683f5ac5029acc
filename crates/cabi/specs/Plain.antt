-- An entry's answer in plain numbers: the refusal's number, 0 for none, and what a lent cell holds afterwards.
use Rattle.std.specs.Prelude.{ℕ}
use Rattle.rules.specs.Outcome.{Outcome, refused, gives}
use Rattle.rules.specs.Walk.{Step, moved, at_end}

abbrev pub number_of : {A : Type 0} → Outcome A → ℕ
number_of (refused r) = r
number_of (gives a) = 0

-- a cell that held `old`, and that gets one of the values which the entry gives
abbrev pub cell_after : {A : Type 0} → Outcome A → (A → ℕ) → ℕ → ℕ
cell_after (refused r) value old = old
cell_after (gives a) value old = value a

-- 1 for "moved", 0 for "at end"
abbrev pub moved_bit : Step → ℕ
moved_bit moved = 1
moved_bit at_end = 0
