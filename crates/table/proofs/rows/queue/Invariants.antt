-- The places passed hold the keys.
use lib.ListN.{replicate}
use Rattle.table.specs.Kept.{far}
use Rattle.table.specs.Rows.{top}
use Rattle.table.proofs.Mapped.{Mapped}
use Rattle.table.proofs.Starting.{key_of}
use Rattle.table.proofs.rows.queue.Given as goal

abbrev pub invariant-loop-v : goal.invariant-loop-v
invariant-loop-v l = Mapped (key_of (far l.distances.cells l.u)) l.v (replicate 128 top) l.left
