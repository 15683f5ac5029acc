-- `table::label` meets its contract: halving, with the width as the measure. Assumes nothing.
use Prim.Native.Nat.{min, ◌*◌}
use mathlib.Core.Path.{◌≡◌}
use Rattle.table.proofs.Halving.{Halved}
use Rattle.table.proofs.label.Given as goal

abbrev pub invariant-loop-width : goal.invariant-loop-width
invariant-loop-width l =
    (l.a ≡ 256 * min l.duv 4161600) × (l.b ≡ 256 * min l.dwv 4161600) × Halved l.a l.b l.low l.width

abbrev pub decreases-loop-width : goal.decreases-loop-width
decreases-loop-width l = l.width
