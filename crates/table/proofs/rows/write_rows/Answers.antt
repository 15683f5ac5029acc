use mathlib.Core.Path.{refl}
use native.Mathlib.Omega.{arith}
use Rattle.table.proofs.Whole.{rows_more, rows_end}
use Rattle.table.proofs.rows.write_rows.Goals as goal

pub loop-u-preserved : goal.loop-u-preserved
loop-u-preserved c = rows_more c.loop-u.invariant c.loop-u-test.true _ (omega arith) refl c.write_row.ensures

pub returns : goal.returns
returns c = rows_end c.loop-u.invariant (omega arith)
