-- The least distances passed are those with v. Assumes nothing.
use Prim.Native.Nat.{ℕ}
use mathlib.Core.List.{List}
use Rattle.table.specs.Kept.{far}
use Rattle.table.specs.Rows.{led}
use Rattle.table.proofs.Mapped.{Mapped}
use Rattle.table.proofs.rows.spread.Given as goal

-- the least distance to x from a point that leads, once v leads too
abbrev by : List ℕ → ℕ → ℕ → ℕ → ℕ → ℕ
by b u v x least = led (far b u v) (far b u x) (far b v x) least

abbrev pub invariant-loop-x : goal.invariant-loop-x
invariant-loop-x l = Mapped (by l.distances.cells l.u l.v) l.x l.initial.lead l.lead
