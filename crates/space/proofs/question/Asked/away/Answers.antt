-- `space::Asked::away` meets its contract. Assumes nothing.
use mathlib.Core.Path.{ap, ◌∙◌}
use mathlib.Core.List.{List}
use lib.IntN.{ℤ}
use lib.ListN.{take}
use Rattle.rules.specs.Points.{dist}
use Rattle.space.proofs.Measured.{measured}
use Rattle.space.proofs.question.Asked.away.Goals as goal

pub returns-clause-value : goal.returns-clause-value
returns-clause-value c =
    let s = c.args.self.now in
    c.distance.ensures.value
    ∙ ap (λ (p : List ℤ). dist (take 64 p) (take 64 s.query.now)) c.coordinates.ensures
    ∙ measured _ _ _ s.points.given _ s.query_is _
