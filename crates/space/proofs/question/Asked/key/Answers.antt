-- `space::Asked::key` meets its contract. Assumes nothing.
use mathlib.Core.Path.{refl}
use Rattle.rules.specs.Order.{keyed}
use Rattle.space.proofs.question.Asked.key.Goals as goal

pub returns : goal.returns
unfolding keyed
returns c = rw (c.away.ensures.value, c.from-2.ensures, c.from.ensures) refl
