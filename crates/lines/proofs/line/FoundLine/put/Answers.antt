-- `lines::line::Found::put` meets its contract. Assumes nothing.
use Rattle.rules.specs.Lines.{found_line}
use Rattle.lines.proofs.Sinks.{then_puts, stopped}
use Rattle.lines.proofs.line.FoundLine.put.Goals as goal

pub returns-in_err-named : goal.returns-in_err-named
unfolding found_line
returns-in_err-named g c = stopped _ c.from_residual.ensures.0 c.in_err-named.ensures

pub returns-in_err-named-2 : goal.returns-in_err-named-2
unfolding found_line
returns-in_err-named-2 g c = let laws = g.met.S.Sink.laws in then_puts laws c.in_ok-named.ensures.ok (stopped _ c.from_residual-in_err-named-2.ensures.0 c.in_err-named-2.ensures)

pub returns-in_err-named-3 : goal.returns-in_err-named-3
unfolding found_line
returns-in_err-named-3 g c = let laws = g.met.S.Sink.laws in then_puts laws c.in_ok-named.ensures.ok (then_puts laws c.in_ok-named-2.ensures.ok (stopped _ c.from_residual-in_err-named-3.ensures.0 c.in_err-named-3.ensures))

pub returns-in_err-named-4 : goal.returns-in_err-named-4
unfolding found_line
returns-in_err-named-4 g c = let laws = g.met.S.Sink.laws in then_puts laws c.in_ok-named.ensures.ok (then_puts laws c.in_ok-named-2.ensures.ok (then_puts laws c.in_ok-named-3.ensures.ok (stopped _ c.from_residual-in_err-named-4.ensures.0 c.in_err-named-4.ensures)))

pub returns : goal.returns
unfolding found_line
returns g c = let laws = g.met.S.Sink.laws in then_puts laws c.in_ok-named.ensures.ok (then_puts laws c.in_ok-named-2.ensures.ok (then_puts laws c.in_ok-named-3.ensures.ok (then_puts laws c.in_ok-named-4.ensures.ok (c.end.ensures))))
