-- `sheet::place::Place::fill` meets its contract. The invariant: the cells so far hold the values so far. Assumes nothing.
use Rattle.std.proofs.Common.{◌≡◌}
use Rattle.sheet.proofs.Filled.{Filled}
use Rattle.sheet.proofs.place.Place.fill.Given as goal

abbrev pub invariant-loop-cell : goal.invariant-loop-cell
invariant-loop-cell l =
    record {
      sheet : l.self.sheet ≡ l.initial.self.sheet;
      filled : Filled l.initial.self.sheet.now l.initial.self.next l.width.c l.buffer l.cell-index l.self.next;
    }
