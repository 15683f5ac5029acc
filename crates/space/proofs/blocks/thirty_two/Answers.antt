-- `space::blocks::thirty_two` meets its contract: pairs add up. Assumes nothing.
use Rattle.space.proofs.Sums.{pairs-add}
use Rattle.space.proofs.blocks.thirty_two.Goals as goal

pub returns : goal.returns
returns c =
    let half = pairs-add (pairs-add (pairs-add c.four.ensures c.four-2.ensures) c.four-3.ensures) c.four-4.ensures in
    pairs-add (pairs-add (pairs-add (pairs-add half c.four-5.ensures) c.four-6.ensures) c.four-7.ensures) c.four-8.ensures
