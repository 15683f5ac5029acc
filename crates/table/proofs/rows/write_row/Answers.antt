use mathlib.Core.Path.{refl}
use Rattle.table.proofs.Starting.{sofar_none, written_none}
use Rattle.table.proofs.rows.write_row.Goals as goal

pub invariant_of-row : goal.invariant_of-row
invariant_of-row c = record {
  u_in = c.requires.0;
  sofar = ∣ sofar_none c.args.distances.now.both_ways c.requires.0 c.queue.ensures refl ∣₁;
}

pub settle_all-requires : goal.settle_all-requires
settle_all-requires c = written_none c.args.cells.now c.args.distances.now.both_ways c.requires.0 c.requires.1 c.queue.ensures
