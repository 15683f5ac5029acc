-- `search::line::first_open` meets its contract: no place that was passed has an id that waits. Assumes nothing.
use Prim.Native.Nat.{ℕ, ◌%◌, ◌≤◌, ◌<◌}
use mathlib.Core.Path.{◌≡◌}
use mathlib.Core.Bool.{false}
use lib.ListN.{get_or}
use Rattle.search.specs.Line.{waits}
use Rattle.search.proofs.line.first_open.Given as goal

abbrev pub invariant-loop-at : goal.invariant-loop-at
invariant-loop-at l = (i : ℕ) → l.from ≤ i → i < l.at → waits l.marks (get_or l.line i 0 % 128) ≡ false
