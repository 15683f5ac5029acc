-- `space::distance` meets its contract. Both loops keep D of the pairs passed; the measure is what is left. Assumes nothing.
use Prim.Native.Nat.{◌≤◌, ◌-◌, min}
use mathlib.Core.Path.{◌≡◌}
use lib.ListN.{length}
use Rattle.space.specs.Pairs.{Pairs}
use Rattle.space.proofs.distance.Given as goal

abbrev pub invariant-loop-i : goal.invariant-loop-i
invariant-loop-i l =
    (l.n ≡ min (min (length l.a) (length l.b)) 64) × (l.i ≤ l.n) × Pairs l.a l.b 0 l.i l.sum

abbrev pub decreases-loop-i : goal.decreases-loop-i
decreases-loop-i l = l.n - l.i

abbrev pub invariant-loop-last : goal.invariant-loop-last
invariant-loop-last l =
    (l.n ≡ min (min (length l.a) (length l.b)) 64) × (l.last ≤ l.n) × Pairs l.a l.b 0 l.last l.sum
