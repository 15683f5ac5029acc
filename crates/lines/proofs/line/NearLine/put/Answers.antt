-- `lines::line::Near::put` meets its contract. Assumes nothing.
use Rattle.rules.specs.Lines.{near_line}
use Rattle.lines.proofs.Sinks.{then_puts, stopped}
use Rattle.lines.proofs.line.NearLine.put.Goals as goal

pub returns-in_err-put : goal.returns-in_err-put
unfolding near_line
returns-in_err-put g c = stopped _ c.from_residual.ensures.0 c.in_err-put.ensures

pub returns-in_err-number_pairs : goal.returns-in_err-number_pairs
unfolding near_line
returns-in_err-number_pairs g c = let laws = g.met.S.Sink.laws in then_puts laws c.in_ok-put.ensures.ok (stopped _ c.from_residual-in_err-number_pairs.ensures.0 c.in_err-number_pairs.ensures)

pub returns : goal.returns
unfolding near_line
returns g c = let laws = g.met.S.Sink.laws in then_puts laws c.in_ok-put.ensures.ok (then_puts laws c.in_ok-number_pairs.ensures.ok (c.end.ensures))
