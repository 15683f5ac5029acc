-- `sheet::refuse::check_asks` meets its contract. The invariant: the asks that are left decide. Assumes nothing.
use Rattle.std.proofs.Common.{◌≡◌, ◌*◌, drop}
use Rattle.sheet.proofs.Refusing.{rows_refusal}
use Rattle.sheet.proofs.refuse.check_asks.Given as goal

abbrev pub invariant-loop-row : goal.invariant-loop-row
invariant-loop-row l = rows_refusal (drop (l.row-index * 4) l.numbers) ≡ rows_refusal l.numbers
