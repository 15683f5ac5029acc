-- `lines::line::Answer::put` meets its contract. Assumes nothing.
use Rattle.lines.specs.Placing.{three_lines}
use Rattle.lines.proofs.Sinks.{then_puts, stopped}
use Rattle.lines.proofs.line.AnswerLine.put.Goals as goal

pub returns-in_err-put : goal.returns-in_err-put
unfolding three_lines
returns-in_err-put g c = stopped _ c.from_residual.ensures.0 c.in_err-put.ensures

pub returns-in_err-put-2 : goal.returns-in_err-put-2
unfolding three_lines
returns-in_err-put-2 g c = let laws = g.met.S.Sink.laws in then_puts laws c.in_ok-put.ensures.ok (stopped _ c.from_residual-in_err-put-2.ensures.0 c.in_err-put-2.ensures)

pub returns : goal.returns
unfolding three_lines
returns g c = let laws = g.met.S.Sink.laws in then_puts laws c.in_ok-put.ensures.ok (then_puts laws c.in_ok-put-2.ensures.ok (c.put-3.ensures))
