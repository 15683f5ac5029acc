-- The loop keeps that the walk is on its way; the measure is D.
use mathlib.Core.Path.{◌≡◌}
use Rattle.walk.specs.Asked.{question_of}
use Rattle.walk.proofs.Way.{Way}
use Rattle.walk.proofs.walk_on.Given as goal

abbrev pub invariant-loop-next : goal.invariant-loop-next
invariant-loop-next l = (l.stand.asked ≡ l.start.asked) × Way (question_of l.start.asked) l.start.current l.stand.current l.moves

abbrev pub decreases-loop-next : goal.decreases-loop-next
decreases-loop-next l = l.stand.distance
