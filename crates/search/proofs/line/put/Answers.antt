-- `search::line::put` meets its contract. Assumes nothing.
use mathlib.Core.Path.{refl}
use native.Mathlib.Omega.{arith}
use Rattle.search.proofs.Places.{put-there}
use Rattle.search.proofs.line.put.Goals as goal

pub returns : goal.returns
returns c = put-there _ _ _ _ _ _ (omega arith) c.shift-at.ensures refl
