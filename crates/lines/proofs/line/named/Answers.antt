-- `lines::line::named` meets its contract. Assumes nothing.
use Rattle.rules.specs.Lines.{part}
use Rattle.lines.proofs.Sinks.{then_puts, stopped}
use Rattle.lines.proofs.line.named.Goals as goal

pub returns-in_err-put : goal.returns-in_err-put
returns-in_err-put g c = stopped (part c.args.x) c.from_residual.ensures.0 c.in_err-put.ensures

pub returns : goal.returns
returns g c = then_puts g.met.S.Sink.laws c.in_ok-put.ensures.ok c.number.ensures
