-- The number of seen points is the one that the search answers: written out, so that another number is refused by it.
use mathlib.Core.Path.{sym, ap, ◌∙◌}
use Rattle.cabi.specs.Plain.{cell_after}
use Rattle.search.specs.Answer.{told}
use Rattle.cabi.proofs.searches.magpiehinge_search.Goals as goal

pub returns-in-Ok-clause-seen : goal.returns-in-Ok-clause-seen
returns-in-Ok-clause-seen c =
    ap (λ o. cell_after o (λ x. x.seen) c.args.seen.now) (ap told (sym c.in-Ok.is) ∙ c.search.ensures.answer)
