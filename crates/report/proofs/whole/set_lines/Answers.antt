-- `report::whole::set_lines` meets its contract. Assumes nothing.
use mathlib.Core.Path.{refl}
use Rattle.lines.proofs.Ends.{is_too_short}
use Rattle.report.proofs.Pages.{paged, paged_front, paged_told}
use Rattle.report.proofs.Sheets.{set_read, table_built}
use Rattle.report.proofs.Printed.{whole_set, whole-short}
use Rattle.report.proofs.whole.set_lines.Goals as goal

pub invariant_of-held : goal.invariant_of-held
invariant_of-held c = record {
  given = set_read c.requires.given.0 _ _ c.requires.room.0 c.vectors.ensures.buffer;
  asks_are = c.requires.given.1;
}

pub returns-in_err-first : goal.returns-in_err-first
returns-in_err-first c =
    let page = paged _ _ _ _ refl (c.in_err-first.ensures.answer, c.set_line.ensures.output) in
    paged_told (is_too_short c.from_residual.ensures.0) (whole-short c.requires.given.0 c.requires.given.1 page)

pub asks_lines-requires : goal.asks_lines-requires
asks_lines-requires c = (paged_front (paged _ _ _ _ refl (c.in_ok-first.ensures.answer, c.set_line.ensures.output))).0

pub returns : goal.returns
returns c =
    let set = set_read c.requires.given.0 _ _ c.requires.room.0 c.vectors.ensures.buffer in
    let table = table_built set _ _ c.requires.room.1 c.build.ensures.written in
    let page = paged _ _ _ _ refl (c.in_ok-first.ensures.answer, c.set_line.ensures.output) in
    whole_set c.requires.given.0 c.requires.given.1 table page c.asks_lines.ensures
