-- `report::found::found_lines` meets its contract. Assumes nothing.
use mathlib.Core.Path.{sym}
use lib.Seq.{length-take-le}
use Rattle.report.proofs.found.found_lines.Goals as goal

pub slice_bounds-answer_lines-end : goal.slice_bounds-answer_lines-end
slice_bounds-answer_lines-end c = sym (length-take-le _ _ c.requires.0)

pub slice_bounds-answer_lines-end-2 : goal.slice_bounds-answer_lines-end-2
slice_bounds-answer_lines-end-2 c = sym (length-take-le _ _ c.requires.1)

pub slice_bounds-answer_lines-end-3 : goal.slice_bounds-answer_lines-end-3
slice_bounds-answer_lines-end-3 c = sym (length-take-le _ _ c.requires.2)
