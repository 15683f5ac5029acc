-- The refusals of what a walk starts from, then the threshold's.
use mathlib.Core.Path.{refl, sym, ◌∙◌}
use borrow.Author.Tests.{lt-ltb, le-ltb}
use Rattle.laws.proofs.RefusalOrder.{passes, walk_order}
use Rattle.space.proofs.Told.{exits}
use Rattle.walk.proofs.stand.Stand.check.Goals as goal

pub returns-in_err-asked-clause-refusal : goal.returns-in_err-asked-clause-refusal
returns-in_err-asked-clause-refusal c =
    exits c.from_residual.result _ c.from_residual.ensures.1 _ (walk_order _ _ _ _ _ _ c.args.question.now.threshold)
    (rw c.from.ensures at c.in_err-asked.ensures.refusal)

pub returns-then-question-gt32767-clause-refusal : goal.returns-then-question-gt32767-clause-refusal
returns-then-question-gt32767-clause-refusal c =
    let e = rw c.from.ensures at c.in_ok-asked.ensures.refusal in
    sym (passes (walk_order _ _ _ _ _ _ c.args.question.now.threshold) e refl ∙ simp (lt-ltb _ _ c.if-question-gt32767.true))

pub returns-clause-refusal : goal.returns-clause-refusal
returns-clause-refusal c =
    let e = rw c.from.ensures at c.in_ok-asked.ensures.refusal in
    sym (passes (walk_order _ _ _ _ _ _ c.args.question.now.threshold) e refl ∙ simp (le-ltb _ _ c.if-question-gt32767.false))
