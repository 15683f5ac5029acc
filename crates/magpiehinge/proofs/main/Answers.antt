-- `magpiehinge::main`: what is printed ends on the page. Assumes nothing.
use Rattle.std.proofs.Common.{refl, sym}
use lib.Seq.{length-take-le}
use Rattle.report.proofs.Pages.{paged, paged_front}
use Rattle.magpiehinge.proofs.main.Goals as goal

pub slice_bounds-output-end : goal.slice_bounds-output-end
slice_bounds-output-end c = (paged_front (paged _ _ _ _ refl (c.in-Ok-print.ensures.answer, c.print.ensures.output))).0

pub slice_bounds-write_all-end : goal.slice_bounds-write_all-end
slice_bounds-write_all-end c =
    sym (length-take-le _ _ (paged_front (paged _ _ _ _ refl (c.in-Ok-print.ensures.answer, c.print.ensures.output))).0)
