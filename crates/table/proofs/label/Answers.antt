use Rattle.table.proofs.Halving.{halved_turn, label_halved}
use Rattle.table.proofs.label.Goals as goal

pub loop-width-preserved : goal.loop-width-preserved
loop-width-preserved c =
    let i = c.loop-width.invariant in
    (i.0, i.1, halved_turn i.2 c.loop-width-test.true c.further-low.ensures)

pub returns : goal.returns
returns c =
    let i = c.loop-width.invariant in
    label_halved _ _ i.2 c.loop-width-test.false i.0 i.1
