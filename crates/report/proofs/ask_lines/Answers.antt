-- `report::ask_lines` meets its contract. Assumes nothing.
use mathlib.Core.Path.{refl, sym, ap, ◌∙◌}
use Rattle.search.specs.Answer.{told}
use Rattle.report.proofs.Asked.{refused_lines, answered, answered_lines}
use Rattle.report.proofs.Pages.{placed_as}
use Rattle.report.proofs.ask_lines.Goals as goal

pub found_lines-requires : goal.found_lines-requires
found_lines-requires c =
    let e = c.search.ensures in
    let x = answered 0 _ _ _ _ _ _ _ _ _ _ (ap told (sym c.in-Ok.is) ∙ e.answer) e.ids e.distances e.trail refl refl refl in
    (x.ids_room, x.distances_room, x.trail_room)

pub returns-in-Ok : goal.returns-in-Ok
returns-in-Ok c =
    let e = c.search.ensures in
    let x = answered _ _ _ _ _ _ _ _ _ _ _ (ap told (sym c.in-Ok.is) ∙ e.answer) e.ids e.distances e.trail refl refl refl in
    let both = placed_as _ _ _ _ (answered_lines _ _ _ c.from-ask_number.ensures x) (c.found_lines.ensures.answer, c.found_lines.ensures.output) in record {
      answer = both.0;
      output = both.1;
    }

pub returns-in-Err : goal.returns-in-Err
returns-in-Err c =
    let told_is = ap told (sym c.in-Err.is) ∙ c.search.ensures.answer in
    let same = refused_lines _ _ _ _ _ _ _ _ told_is refl refl refl c.from-ask_number.ensures (c.from-in-Err.ensures ∙ c.from.ensures) in
    let both = placed_as _ _ _ _ same (c.ask_refused_line.ensures.answer, c.ask_refused_line.ensures.output) in record {
      answer = both.0;
      output = both.1;
    }
