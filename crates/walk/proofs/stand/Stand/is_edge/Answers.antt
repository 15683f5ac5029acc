use mathlib.Core.Path.{sym}
use borrow.Author.Tests.{eq-eqb, ne_eqb}
use Rattle.rules.specs.Labels.{edge_in}
use Rattle.walk.proofs.stand.Stand.is_edge.Goals as goal

pub returns-then-current-id : goal.returns-then-current-id
unfolding edge_in
returns-then-current-id c = rw (sym c.from-current.ensures, ne_eqb _ _ c.if-current-id.true)

pub returns-else-current-id : goal.returns-else-current-id
unfolding edge_in
returns-else-current-id c = rw (sym c.from-current.ensures, eq-eqb _ _ c.if-current-id.false)
