-- The loop keeps the least key of the ids passed.
use Prim.Native.Nat.{◌*◌}
use mathlib.Core.Path.{◌≡◌}
use Rattle.rules.specs.Order.{keyed}
use Rattle.walk.specs.Asked.{question_of, D, edge}
use Rattle.walk.specs.Least.{least}
use Rattle.walk.proofs.stand.Stand.least_key.Given as goal

abbrev pub invariant-loop-id : goal.invariant-loop-id
invariant-loop-id l =
    l.best ≡ least (keyed (D (question_of l.self.asked))) (edge (question_of l.self.asked) l.self.current) (l.self.distance * 128) l.id
