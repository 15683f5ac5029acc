-- `lines::line::Set::put` meets its contract. Assumes nothing.
use Rattle.rules.specs.Lines.{set_line}
use Rattle.lines.proofs.Sinks.{then_puts, stopped}
use Rattle.lines.proofs.line.SetLine.put.Goals as goal

pub returns-in_err-named : goal.returns-in_err-named
unfolding set_line
returns-in_err-named g c = stopped _ c.from_residual.ensures.0 c.in_err-named.ensures

pub returns-in_err-number : goal.returns-in_err-number
unfolding set_line
returns-in_err-number g c = let laws = g.met.S.Sink.laws in then_puts laws c.in_ok-named.ensures.ok (stopped _ c.from_residual-in_err-number.ensures.0 c.in_err-number.ensures)

pub returns-in_err-number-2 : goal.returns-in_err-number-2
unfolding set_line
returns-in_err-number-2 g c = let laws = g.met.S.Sink.laws in then_puts laws c.in_ok-named.ensures.ok (then_puts laws c.in_ok-number.ensures.ok (stopped _ c.from_residual-in_err-number-2.ensures.0 c.in_err-number-2.ensures))

pub returns : goal.returns
unfolding set_line
returns g c = let laws = g.met.S.Sink.laws in then_puts laws c.in_ok-named.ensures.ok (then_puts laws c.in_ok-number.ensures.ok (then_puts laws c.in_ok-number-2.ensures.ok (c.end.ensures)))
