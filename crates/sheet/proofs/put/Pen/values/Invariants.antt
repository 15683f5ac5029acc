-- `sheet::put::Pen::values` meets its contract. The invariant: the values so far are put. Assumes nothing.
use Rattle.std.proofs.Common.{take}
use Rattle.rules.specs.Bits.{value_bits}
use Rattle.sheet.specs.Pen.{Puts}
use Rattle.sheet.proofs.put.Pen.values.Given as goal

abbrev pub invariant-loop-z : goal.invariant-loop-z
invariant-loop-z l = Puts l.initial.self l.self (value_bits l.width.c (take l.z-index l.zs))
