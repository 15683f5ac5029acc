-- `search::Front::follow` meets its contract: what the list has not passed may yet be reached. Assumes nothing.
use Prim.Native.Nat.{◌-◌}
use mathlib.Core.Path.{◌≡◌}
use Rattle.search.proofs.Following.{Following}
use Rattle.search.proofs.see.Front.follow.Given as goal

abbrev pub invariant-loop-i : goal.invariant-loop-i
invariant-loop-i l =
    Following l.row l.threshold l.initial.self.marks l.self.marks l.self.rest l.i l.self.rest_length × (l.self.asked ≡ l.initial.self.asked)

abbrev pub decreases-loop-i : goal.decreases-loop-i
decreases-loop-i l = l.self.rest_length - l.i
