-- `report::whole::Held::ask_lines` meets its contract. Assumes nothing.
use mathlib.Core.Path.{sym, ap, subst, ◌∙◌}
use Prim.Native.Nat.{ℕ, ◌<◌}
use lib.Seq.{length-take-le}
use Rattle.rules.specs.Program.{lines_of}
use Rattle.sheet.specs.Answers.{ask_told}
use Rattle.report.proofs.Pages.{paged}
use Rattle.report.proofs.Sheets.{few-coordinates, not-refused, ask_read}
use Rattle.report.proofs.whole.Held.ask_lines.Goals as goal

pub slice_bounds-cells-end : goal.slice_bounds-cells-end
slice_bounds-cells-end c = few-coordinates c.args.self.now.given

pub slice_bounds-query-end : goal.slice_bounds-query-end
slice_bounds-query-end c = sym (length-take-le _ _ (few-coordinates c.args.self.now.given))

pub returns-in_default : goal.returns-in_default
returns-in_default c =
    let s = c.args.self.now in
    let number = subst (λ (m : ℕ). c.args.number < m) s.asks_are c.requires in
    let told = ap ask_told (sym c.in_default.is) ∙ c.ask.ensures.value in
    absurd (not-refused s.given c.args.number number _ (length-take-le _ _ (few-coordinates s.given)) _ told)

pub returns : goal.returns
returns c =
    let s = c.args.self.now in
    let number = subst (λ (m : ℕ). c.args.number < m) s.asks_are c.requires in
    let told = ap ask_told (sym c.in-Ok.is) ∙ c.ask.ensures.value in
    let asked = ask_read s.given c.args.number number _ (length-take-le _ _ (few-coordinates s.given)) in
    paged _ _ _ _ (ap (lines_of _) (asked _ _ _ _ _ _ told c.ask.ensures.query)) (c.ask_lines.ensures.answer, c.ask_lines.ensures.output)
