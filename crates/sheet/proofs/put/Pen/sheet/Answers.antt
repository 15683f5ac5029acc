-- `sheet::put::Pen::sheet` meets its contract. Assumes nothing.
use Rattle.sheet.specs.Answers.{held}
use Rattle.sheet.proofs.Whole.{sheet_puts}
use Rattle.sheet.proofs.put.Pen.sheet.Goals as goal

pub returns : goal.returns
returns c =
    sheet_puts (held c.args.sheet.now.contents) _ _ _ _ _ _ _
    c.field.ensures.put c.field-2.ensures.put c.field-3.ensures.put c.field-4.ensures.put c.values.ensures.put c.asks.ensures
