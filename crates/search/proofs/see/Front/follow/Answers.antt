-- `search::Front::follow` meets its contract. Assumes nothing.
use Prim.Native.Nat.{◌<◌}
use mathlib.Core.Path.{refl, ◌∙◌}
use native.Mathlib.Omega.{arith}
use lib.ListN.{length, get_or}
use Rattle.search.proofs.Following.{following_start, following_pass, following_reach, following_end}
use Rattle.search.proofs.Seeing.{few}
use Rattle.search.proofs.see.Front.follow.Goals as goal

pub loop-i-init : goal.loop-i-init
loop-i-init c = (following_start _ _ _ _ _, refl)

pub loop-i-preserved-then-row-id : goal.loop-i-preserved-then-row-id
loop-i-preserved-then-row-id c =
    let self = c.loop-i.self in
    let inv = c.loop-i.invariant in
    let there : get_or self.rest c.loop-i.i 0 < length self.marks =
    omega (arith, self.listed.below c.loop-i.i c.loop-i-test.true, self.lined.marks_size, few self.asked) in (
      following_reach inv.0 c.loop-i-test.true (rw c.from-id.ensures at c.if-row-id.true) there c.reach.ensures.reached,
      c.reach.ensures.asked ∙ inv.1,
    )

pub loop-i-preserved : goal.loop-i-preserved
loop-i-preserved c = (following_pass c.loop-i.invariant.0 c.loop-i-test.true (rw c.from-id.ensures at c.if-row-id.false), c.loop-i.invariant.1)

pub returns-clause-marked : goal.returns-clause-marked
returns-clause-marked c =
    let self = c.loop-i.self in
    let inv = c.loop-i.invariant in
    following_end inv.0 c.loop-i-test.false (rw inv.1 at self.listed)
