-- `search::line::shift` meets its contract: the numbers from the free place on have been moved up. Assumes nothing.
use Prim.Native.Nat.{ℕ, ◌-◌, ◌≤◌, ◌<◌}
use lib.ListN.{length, get_or}
use Rattle.search.specs.Line.{Moved}
use Rattle.search.proofs.line.shift.Given as goal

abbrev pub invariant-loop-at : goal.invariant-loop-at
invariant-loop-at l = record {
  larger : (i : ℕ) → l.at - 1 ≤ i → i < length l.initial.line - 1 → l.key < get_or l.initial.line i 0;
  moved : Moved l.initial.line (length l.initial.line - 1) (l.at - 1) l.line;
}
