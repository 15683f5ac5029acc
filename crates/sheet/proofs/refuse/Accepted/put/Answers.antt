-- `sheet::refuse::Accepted::put` meets its contract. Assumes nothing.
use Rattle.std.proofs.Common.{◌≡◌, ◌≤◌, length, refl, ◌∙◌, arith}
use Rattle.rules.specs.Sheet.{sheet, sheet_length}
use Rattle.rules.specs.Outcome.{over}
use Rattle.sheet.specs.Answers.{held}
use Rattle.sheet.proofs.Whole.{sheet_length_is, sheet_room, sheet_over}
use Rattle.sheet.proofs.refuse.Accepted.put.Goals as goal

pub sheet-requires : goal.sheet-requires
sheet-requires c =
    let s = c.args.self.now in
    let room : sheet_length s.contents.head.n s.contents.head.d s.contents.head.c s.contents.head.asks ≤ length c.args.output.now = omega (arith, s.exact, c.requires) in
    sheet_room (held s.contents) s.can c.args.output.now room _ refl refl

pub returns-clause-long : goal.returns-clause-long
returns-clause-long c =
    let s = c.args.self.now in
    s.exact ∙ sheet_length_is (held s.contents) s.can

pub returns-clause-written : goal.returns-clause-written
returns-clause-written c =
    let s = c.args.self.now in
    let room : sheet_length s.contents.head.n s.contents.head.d s.contents.head.c s.contents.head.asks ≤ length c.args.output.now = omega (arith, s.exact, c.requires) in
    let put : c.sheet.new.self.out.now ≡ over (sheet (held s.contents)) c.args.output.now = c.sheet.ensures.out ∙ sheet_over (held s.contents) s.can c.args.output.now room in
    grind arith
