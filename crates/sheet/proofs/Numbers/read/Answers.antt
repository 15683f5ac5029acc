-- `sheet::Numbers::read` meets its contract. Assumes nothing.
use Rattle.sheet.proofs.Reading.{seven, numbers_read}
use Rattle.sheet.proofs.Numbers.read.Goals as goal

pub overflow_add-result : goal.overflow_add-result
overflow_add-result c = seven _ _ c.take-2.ensures.value

pub overflow_add-result-2 : goal.overflow_add-result-2
overflow_add-result-2 c = seven _ _ c.take-3.ensures.value

pub returns-clause-value : goal.returns-clause-value
returns-clause-value c =
    let a = c.take.ensures in
    let b = c.take-2.ensures in
    let d = c.take-3.ensures in
    numbers_read _ c.requires _ _ _ a.same a.moved b.same b.moved d.same d.moved a.value b.value d.value c.take-4.ensures.value
