-- The measure is how many wait.
use mathlib.Core.Path.{◌≡◌}
use Rattle.table.specs.Kept.{far}
use Rattle.table.specs.Rows.{lowest, Written}
use Rattle.table.proofs.Turns.{waiting}
use Rattle.table.proofs.rows.Row.settle_all.Given as goal

abbrev pub invariant-loop-key : goal.invariant-loop-key
invariant-loop-key l = record {
  same_distances : l.self.distances.now ≡ l.initial.self.distances.now;
  same_u : l.self.u ≡ l.initial.self.u;
  written : Written (far l.self.distances.now.cells) l.self.distances.now.n l.self.u l.self.left.now l.cells;
  next : l.key ≡ lowest l.self.left.now;
}

abbrev pub decreases-loop-key : goal.decreases-loop-key
decreases-loop-key l = waiting l.self.left.now
