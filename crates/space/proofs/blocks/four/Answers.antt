-- `space::blocks::four` meets its contract: pairs add up. Assumes nothing.
use Rattle.space.proofs.Sums.{pairs-add}
use Rattle.space.proofs.blocks.four.Goals as goal

pub returns : goal.returns
returns c =
    pairs-add (pairs-add (pairs-add c.pair.ensures c.pair-2.ensures) c.pair-3.ensures) c.pair-4.ensures
