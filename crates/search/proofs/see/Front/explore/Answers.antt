-- `search::Front::explore` meets its contract. Assumes nothing.
use mathlib.Core.Path.{refl, ap, ◌∙◌}
use native.Mathlib.Omega.{arith}
use lib.ListN.{set}
use Rattle.search.proofs.Rounds.{round_start, next-waits, room, round_step, round_end}
use Rattle.search.proofs.see.Front.explore.Goals as goal

pub loop-from-init : goal.loop-from-init
loop-from-init c = (round_start _ _ _ _ c.requires.fresh c.args.self.now.lined, refl)

pub bounds-trail-walked : goal.bounds-trail-walked
bounds-trail-walked c =
    let inv = c.loop-from.invariant in
    let next = room _ _ _ _ inv.0 c.loop-from.self.lined c.goes_on.ensures c.loop-from-test.true in
    omega (arith, next, inv.0.tsize, rw (← inv.1) at c.requires.room)

pub visit-requires : goal.visit-requires
visit-requires c =
    let x = rw c.deref.ensures.0 at c.id_of-x.ensures in
    rw (c.from.ensures, x) (next-waits _ _ _ _ c.loop-from.invariant.0 c.loop-from.self.lined c.goes_on.ensures c.loop-from-test.true)

pub loop-from-smaller : goal.loop-from-smaller
loop-from-smaller c =
    let next = room _ _ _ _ c.loop-from.invariant.0 c.loop-from.self.lined c.goes_on.ensures c.loop-from-test.true in
    rw c.visit.ensures.asked (omega (arith, next))

pub loop-from-preserved : goal.loop-from-preserved
loop-from-preserved c =
    let inv = c.loop-from.invariant in
    let x = rw c.deref.ensures.0 at c.id_of-x.ensures in
    let step = round_step _ _ _ _ inv.0 c.loop-from.self.lined c.goes_on.ensures c.loop-from-test.true (rw (← inv.1) at c.requires.room)
    (rw (c.from.ensures, x) at c.visit.ensures.visited) (ap (set _ _) x) in
    (rw c.visit.ensures.asked step, c.visit.ensures.asked ∙ inv.1)

pub returns : goal.returns
returns c =
    let inv = c.loop-from.invariant in
    rw inv.1 at (round_end _ _ _ _ inv.0 c.loop-from.self.lined c.goes_on.ensures c.loop-from-test.false)
