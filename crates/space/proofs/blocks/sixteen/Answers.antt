-- `space::blocks::sixteen` meets its contract: pairs add up. Assumes nothing.
use Rattle.space.proofs.Sums.{pairs-add}
use Rattle.space.proofs.blocks.sixteen.Goals as goal

pub returns : goal.returns
returns c =
    pairs-add (pairs-add (pairs-add c.four.ensures c.four-2.ensures) c.four-3.ensures) c.four-4.ensures
