-- `report::whole::fill` meets its contract. Assumes nothing.
use lib.Seq.{length-take-le}
use mathlib.Core.Path.{sym, ap, ◌∙◌}
use Rattle.laws.proofs.Refusals.{small_product, small-square}
use Rattle.sheet.specs.Answers.{head_told}
use Rattle.report.proofs.Pages.{paged}
use Rattle.report.proofs.Printed.{sheet-refused, read_head}
use native.Mathlib.Omega.{arith}
use Rattle.report.proofs.whole.fill.Goals as goal

pub overflow_mul-cells : goal.overflow_mul-cells
overflow_mul-cells c = let h = read_head c.in-Ok.is c.header.ensures in omega (arith, small_product _ _ h.few-points h.few-coordinates)

pub overflow_mul-square : goal.overflow_mul-square
overflow_mul-square c = let h = read_head c.in-Ok.is c.header.ensures in omega (arith, small-square _ h.few-points)

pub slice_bounds-vectors-end : goal.slice_bounds-vectors-end
slice_bounds-vectors-end c = let h = read_head c.in-Ok.is c.header.ensures in omega (arith, small_product _ _ h.few-points h.few-coordinates)

pub slice_bounds-set_lines-end : goal.slice_bounds-set_lines-end
slice_bounds-set_lines-end c = let h = read_head c.in-Ok.is c.header.ensures in sym (length-take-le _ _ (small_product _ _ h.few-points h.few-coordinates))

pub slice_bounds-table-end : goal.slice_bounds-table-end
slice_bounds-table-end c = let h = read_head c.in-Ok.is c.header.ensures in omega (arith, small-square _ h.few-points)

pub slice_bounds-set_lines-end-in-Ok : goal.slice_bounds-set_lines-end-in-Ok
slice_bounds-set_lines-end-in-Ok c = let h = read_head c.in-Ok.is c.header.ensures in sym (length-take-le _ _ (small-square _ h.few-points))

pub set_lines-requires : goal.set_lines-requires
set_lines-requires c =
    let h = read_head c.in-Ok.is c.header.ensures in
    record {
      given = (h.given, h.asks_are);
      room = (length-take-le _ _ (small_product _ _ h.few-points h.few-coordinates), length-take-le _ _ (small-square _ h.few-points));
    }

pub returns-in-Err : goal.returns-in-Err
returns-in-Err c =
    let told = ap head_told (sym c.in-Err.is) ∙ c.header.ensures in
    paged _ _ _ _ (sheet-refused _ _ _ told (c.from-in-Err.ensures ∙ c.from.ensures)) (c.refused_line.ensures.answer, c.refused_line.ensures.output)
