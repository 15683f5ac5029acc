-- `lines::measure::digits` meets its contract. Assumes nothing.
use Rattle.lines.proofs.Digits.{Counted}
use Rattle.lines.proofs.measure.digits.Given as goal

abbrev pub invariant-loop-rest : goal.invariant-loop-rest
invariant-loop-rest l = Counted l.x l.count l.rest

abbrev pub decreases-loop-rest : goal.decreases-loop-rest
decreases-loop-rest l = l.rest
