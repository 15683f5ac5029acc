-- `sheet::values::Width::all_fit` meets its contract. Assumes nothing.
use Rattle.std.proofs.Common.{◌∙◌, rules, tests}
use Rattle.std.proofs.lemmas.Iterator.{YieldsList-from_slice}
use Rattle.std.proofs.lemmas.Iterator.Search.{all_from_yields_List}
use Rattle.rules.specs.Bits.{fits}
use Rattle.sheet.proofs.Signs.{all_fit-is}
use Rattle.sheet.proofs.values.Width.all_fit.Goals as goal

pub returns : goal.returns
returns c =
    let a = c.args in
    all_from_yields_List (fits a.self.c) _ _ _ c.all.ensures.ran (YieldsList-from_slice a.values.now c.iter.ensures.rest) (λ x b q k. search (rules, tests))
    ∙ all_fit-is a.self.c a.values.now
