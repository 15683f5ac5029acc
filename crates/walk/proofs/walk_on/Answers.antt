use mathlib.Core.Path.{refl, ◌∙◌}
use native.Mathlib.Omega.{arith}
use Rattle.walk.specs.Asked.{question_of}
use Rattle.walk.proofs.Standing.{few}
use Rattle.walk.proofs.Way.{way_starts, way_moves, way_spare, way_ends}
use Rattle.walk.proofs.walk_on.Goals as goal

pub loop-next-init : goal.loop-next-init
loop-next-init c = (refl, way_starts (question_of c.args.start.asked) _ c.args.start.inside)

pub overflow_add-moves : goal.overflow_add-moves
overflow_add-moves c =
    let inv = c.loop-next.invariant in
    record { fits = omega (arith, way_spare (question_of c.args.start.asked) _ inv.1 (rw inv.0 at c.in-Some.ensures.moves), few c.args.start.asked) }

pub loop-next-preserved : goal.loop-next-preserved
loop-next-preserved c =
    let inv = c.loop-next.invariant in
    (c.in-Some.ensures.same ∙ inv.0, way_moves (question_of c.args.start.asked) _ inv.1 (rw inv.0 at c.in-Some.ensures.moves))

pub returns : goal.returns
returns c =
    let inv = c.loop-next.invariant in
    way_ends (question_of c.args.start.asked) _ inv.1 (rw inv.0 at c.loop-next.stand.far) (rw inv.0 at c.in_default.ensures.moves)
