-- The rows passed are written.
use Rattle.table.specs.Kept.{far}
use Rattle.table.proofs.Whole.{RowsIn}
use Rattle.table.proofs.rows.write_rows.Given as goal

abbrev pub invariant-loop-u : goal.invariant-loop-u
invariant-loop-u l = RowsIn (far l.distances.cells) l.distances.n l.u l.table
