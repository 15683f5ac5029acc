-- `sheet::put::Pen::ask` meets its contract. Assumes nothing.
use Rattle.sheet.proofs.Pens.{ask_puts}
use Rattle.sheet.proofs.put.Pen.ask.Goals as goal

pub returns : goal.returns
returns c =
    ask_puts _ _ _ _ _ _ c.from-numbers.result c.from-numbers.ensures c.from.ensures c.from-2.ensures c.from-3.ensures c.from-4.ensures _
    c.field.ensures.put c.field-2.ensures.put c.field-3.ensures.put c.field-4.ensures.put c.values.ensures.put
