-- The ids before u have their distances, and so has u with those passed.
use mathlib.Core.Path.{◌≡◌}
use lib.ListN.{length}
use Rattle.rules.specs.Points.{apart}
use Rattle.table.specs.Kept.{far, Mutual, Filled, Begun}
use Rattle.table.proofs.kept.Distances.fill.Given as goal

abbrev pub invariant-loop-u : goal.invariant-loop-u
invariant-loop-u l = record {
  same_n : l.self.n ≡ l.points.set.n;
  long : length l.self.cells ≡ 16384;
  both_ways : Mutual (far l.self.cells) l.self.n;
  filled : Filled (apart l.points.set.d l.points.set.vectors.now) l.u l.self.cells;
}

abbrev pub invariant-loop-v : goal.invariant-loop-v
invariant-loop-v l = record {
  same_n : l.self.n ≡ l.points.set.n;
  long : length l.self.cells ≡ 16384;
  both_ways : Mutual (far l.self.cells) l.self.n;
  filled : Filled (apart l.points.set.d l.points.set.vectors.now) l.u l.self.cells;
  begun : Begun (apart l.points.set.d l.points.set.vectors.now) l.u l.v l.self.cells;
}
