-- `space::Points::apart` meets its contract. Assumes nothing.
use mathlib.Core.Path.{ap₂, ◌∙◌}
use mathlib.Core.List.{List}
use lib.IntN.{ℤ}
use lib.ListN.{take}
use Rattle.rules.specs.Points.{dist}
use Rattle.space.proofs.Measured.{between-points}
use Rattle.space.proofs.set.Points.apart.Goals as goal

pub returns-clause-value : goal.returns-clause-value
returns-clause-value c =
    c.distance.ensures.value
    ∙ ap₂ (λ (p q : List ℤ). dist (take 64 p) (take 64 q)) c.coordinates.ensures c.coordinates-2.ensures
    ∙ between-points _ _ _ c.args.self.now.given _ _
