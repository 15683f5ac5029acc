-- `search::see::every_id` meets its contract: each cell is what the call gave. Assumes nothing.
use borrow.Author.Rules.{rules}
use Rattle.search.proofs.see.every_id.Goals as goal

pub returns : goal.returns
returns c = record { size = c.from_fn.ensures.items.long; each = λ j l. let s = (c.from_fn.ensures.items.at j 0 l).2 in search rules }
