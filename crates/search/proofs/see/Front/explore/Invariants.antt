-- `search::Front::explore` meets its contract: after each turn the marks, the line and the trail stand for the search's state. Assumes nothing.
use Prim.Native.Nat.{◌-◌}
use mathlib.Core.Path.{◌≡◌}
use Rattle.search.proofs.Rounds.{Round}
use Rattle.search.proofs.see.Front.explore.Given as goal

abbrev pub invariant-loop-from : goal.invariant-loop-from
invariant-loop-from l =
    Round l.self.asked l.width l.initial.self.marks l.initial.trail l.self.marks l.self.line.items l.trail l.self.from l.walked
    × (l.self.asked ≡ l.initial.self.asked)

abbrev pub decreases-loop-from : goal.decreases-loop-from
decreases-loop-from l = l.self.asked.points.set.n - l.walked
