-- `lines::line::pair` meets its contract. Assumes nothing.
use Rattle.lines.proofs.Sinks.{then_puts, stopped}
use Rattle.lines.proofs.line.pair.Goals as goal

pub returns-in_err-number : goal.returns-in_err-number
returns-in_err-number g c = stopped _ c.from_residual.ensures.0 c.in_err-number.ensures

pub returns : goal.returns
returns g c = then_puts g.met.S.Sink.laws c.in_ok-number.ensures.ok c.number-2.ensures
