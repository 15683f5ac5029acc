-- `lines::line::numbers` meets its contract. Assumes nothing.
use Rattle.lines.proofs.Sinks.{ahead_more, ahead_stopped, ahead_end}
use Rattle.lines.proofs.Runs.{parts_next, parts-done}
use Rattle.lines.proofs.line.numbers.Goals as goal

pub returns-in_err-number : goal.returns-in_err-number
returns-in_err-number g c =
    let next = parts_next _ _ c.loop-id-test.true c.from.ensures in
    ahead_stopped _ c.loop-id.invariant next c.from_residual.ensures.0 c.in_err-number.ensures

pub loop-id-preserved : goal.loop-id-preserved
loop-id-preserved g c =
    let next = parts_next _ _ c.loop-id-test.true c.from.ensures in
    ahead_more g.met.S.Sink.laws c.loop-id.invariant next c.in_ok-number.ensures.ok

pub returns : goal.returns
returns g c = ahead_end g.met.S.Sink.laws c.loop-id.invariant (parts-done _ _ c.loop-id-test.false)
