use native.Mathlib.Omega.{arith}
use Rattle.walk.proofs.Standing.{goes_nowhere, goes_there}
use Rattle.walk.proofs.stand.Stand.nearer.Goals as goal

pub returns-then-self-distance-clause-moves : goal.returns-then-self-distance-clause-moves
returns-then-self-distance-clause-moves c =
    goes_nowhere c.args.self.now c.least_key-key.ensures (rw c.distance_of-distance.ensures at c.if-self-distance.true)

pub invariant_of-result : goal.invariant_of-result
invariant_of-result c =
    let is = c.distance_of-distance.ensures in
    let to = goes_there c.args.self.now c.least_key-key.ensures c.id_of.ensures (rw is at c.if-self-distance.false) in
    record { inside = to.inside; far = rw is to.far; bounded = omega (arith, c.if-self-distance.false, c.args.self.now.bounded) }

pub returns-clause-moves : goal.returns-clause-moves
returns-clause-moves c =
    (goes_there c.args.self.now c.least_key-key.ensures c.id_of.ensures (rw c.distance_of-distance.ensures at c.if-self-distance.false)).goes
