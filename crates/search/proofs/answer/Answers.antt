-- `search::answer` meets its contract. Assumes nothing.
use native.Mathlib.Omega.{arith}
use Rattle.search.proofs.Filling.{filled_step, filled_end}
use Rattle.search.proofs.answer.Goals as goal

pub loop-i-preserved : goal.loop-i-preserved
loop-i-preserved c =
    let inv = c.loop-i.invariant in
    let t = c.loop-i-test.true in
    (filled_step inv.0 t (omega arith) c.id_of.ensures, filled_step inv.1 t (omega arith) c.distance_of.ensures)

pub returns-clause-ids : goal.returns-clause-ids
returns-clause-ids c = filled_end c.loop-i.invariant.0 c.loop-i-test.false (omega arith)

pub returns-clause-distances : goal.returns-clause-distances
returns-clause-distances c = filled_end c.loop-i.invariant.1 c.loop-i-test.false (omega arith)
