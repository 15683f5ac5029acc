-- `demands::others::page_call` meets its contract: the record is what `report::page` ensures. Assumes nothing.
use Rattle.demands.proofs.others.page_call.Goals as goal

pub returns : goal.returns
returns c = record { is_blank = c.page.ensures.blank }
