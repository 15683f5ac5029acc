-- `lines::line::Trail::put` meets its contract. Assumes nothing.
use Rattle.rules.specs.Lines.{trail_line}
use Rattle.lines.proofs.Sinks.{then_puts, stopped}
use Rattle.lines.proofs.line.TrailLine.put.Goals as goal

pub returns-in_err-put : goal.returns-in_err-put
unfolding trail_line
returns-in_err-put g c = stopped _ c.from_residual.ensures.0 c.in_err-put.ensures

pub returns-in_err-numbers : goal.returns-in_err-numbers
unfolding trail_line
returns-in_err-numbers g c = let laws = g.met.S.Sink.laws in then_puts laws c.in_ok-put.ensures.ok (stopped _ c.from_residual-in_err-numbers.ensures.0 c.in_err-numbers.ensures)

pub returns : goal.returns
unfolding trail_line
returns g c = let laws = g.met.S.Sink.laws in then_puts laws c.in_ok-put.ensures.ok (then_puts laws c.in_ok-numbers.ensures.ok (c.end.ensures))
