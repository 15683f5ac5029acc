-- `lines::line::Refused::put` meets its contract. Assumes nothing.
use Rattle.rules.specs.Lines.{refused_line}
use Rattle.lines.proofs.Sinks.{then_puts, stopped}
use Rattle.lines.proofs.line.RefusedLine.put.Goals as goal

pub returns-in_err-named : goal.returns-in_err-named
unfolding refused_line
returns-in_err-named g c = stopped _ c.from_residual.ensures.0 c.in_err-named.ensures

pub returns : goal.returns
unfolding refused_line
returns g c = let laws = g.met.S.Sink.laws in then_puts laws c.in_ok-named.ensures.ok (c.end.ensures)
