-- `sheet::put::Pen::field` meets its contract. The invariant: all bits but the last k are put. Assumes nothing.
use Rattle.std.proofs.Common.{◌≤◌, ◌-◌, ◌/◌, ◌^◌}
use Rattle.rules.specs.Bits.{bits}
use Rattle.sheet.specs.Pen.{Puts}
use Rattle.sheet.proofs.put.Pen.field.Given as goal

abbrev pub invariant-loop-k : goal.invariant-loop-k
invariant-loop-k l = record { few : l.k ≤ l.w; put : Puts l.initial.self l.self (bits (l.w - l.k) (l.v / 2 ^ l.k)) }

abbrev pub decreases-loop-k : goal.decreases-loop-k
decreases-loop-k l = l.k
