use mathlib.Core.Path.{◌∙◌}
use native.Mathlib.Omega.{arith}
use Rattle.laws.proofs.Distances.{dist_cut}
use Rattle.space.proofs.Sums.{pairs-none, pairs_more, pairs_is}
use Rattle.space.proofs.distance.Goals as goal
use Rattle.space.proofs.distance.Goals.{then-n-i-ge16, else-n-i-ge16}

pub loop-i-init : goal.loop-i-init
loop-i-init c = (omega arith, omega arith, pairs-none _ _)

pub loop-i-preserved : goal.loop-i-preserved
loop-i-preserved c =
    let l = c.loop-i in
    (l.invariant.0, omega arith, pairs_more l.invariant.2 c.thirty_two-sum.ensures)

pub loop-last-init : goal.loop-last-init
loop-last-init c =
    let l = c.loop-i in
    elim c.if-n-i-ge16.branch [
      | then-n-i-ge16 w ↦ (l.invariant.0, omega arith, pairs_is (pairs_more l.invariant.2 w.sixteen-sum.ensures) w.i-is w.sum-is)
      | else-n-i-ge16 w ↦ (l.invariant.0, omega arith, pairs_is l.invariant.2 w.i-is w.sum-is)
    ]

pub loop-last-preserved : goal.loop-last-preserved
loop-last-preserved c =
    let l = c.loop-last in
    (l.invariant.0, omega arith, pairs_more l.invariant.2 c.pair-sum.ensures)

pub returns : goal.returns
returns c =
    let l = c.loop-last in
    let s = c.args in
    record {
      value = l.invariant.2.is ∙ dist_cut l.last 64 s.a.now s.b.now (omega arith) (λ p q. omega arith);
      bounded = omega arith;
    }
