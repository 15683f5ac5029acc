-- `report::print` meets its contract. Assumes nothing.
use mathlib.Core.Path.{sym}
use lib.Seq.{length-take-le}
use Rattle.report.proofs.Pages.{placed_as, paged_front}
use Rattle.report.proofs.Room.{never_short}
use Rattle.report.proofs.print.Goals as goal

pub returns-in_err-end : goal.returns-in_err-end
returns-in_err-end c = absurd (never_short _ c.page-lines.ensures.result_len c.in_err-end.ensures)

pub slice_bounds-lines-end : goal.slice_bounds-lines-end
slice_bounds-lines-end c = (paged_front c.in_ok-end.ensures).0

pub slice_bounds-place-end : goal.slice_bounds-place-end
slice_bounds-place-end c =
    sym (length-take-le _ _ (paged_front c.in_ok-end.ensures).0)

pub returns : goal.returns
returns c =
    let front = paged_front c.in_ok-end.ensures in
    let both = placed_as _ _ _ _ front.1 (c.place.ensures.answer, c.place.ensures.output) in record {
      answer = both.0;
      output = both.1;
    }
