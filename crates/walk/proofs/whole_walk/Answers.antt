-- It is refused, or it is the walk to its end.
use mathlib.Core.Path.{sym, ap, ◌∙◌}
use Rattle.rules.specs.Outcome.{gives}
use Rattle.rules.specs.Entries.{walk_answer}
use Rattle.laws.proofs.Refusals.{outcome-gives, outcome-refused}
use Rattle.std.proofs.lemmas.Result.{err_from_is_err_and}
use Rattle.space.specs.declared.question.Question.{Question}
use Rattle.space.proofs.Told.{number-some}
use Rattle.walk.specs.Asked.{ends}
use Rattle.walk.proofs.whole_walk.Goals as goal

pub returns-in_err-stand : goal.returns-in_err-stand
unfolding walk_answer
returns-in_err-stand c =
    let p = err_from_is_err_and c.from_residual.result c.from_residual.ensures.1 in
    rw (p.1, p.2) (rw (c.in_err-stand.ensures.refusal) (sym (outcome-refused (λ z. number-some _ (c.in_err-stand.ensures.refusal ∙ z)) _)))

pub returns : goal.returns
unfolding walk_answer
returns c =
    let e = c.in_ok-stand.ensures in
    ap gives (c.walk_on.ensures ∙ ap (λ (q : Question). ends q c.in_ok-stand.stand.current) e.same ∙ ap (ends c.args.question.now) e.start) ∙ sym (outcome-gives (sym e.refusal) _)
