-- `space::Set::point_refusal` meets its contract: the set's refusal first, then the id's. Assumes nothing.
use mathlib.Core.Path.{refl, sym, ◌∙◌}
use borrow.Author.Tests.{le-leb, lt-leb}
use Rattle.laws.proofs.RefusalOrder.{passes, point_order}
use Rattle.space.proofs.Told.{exits}
use Rattle.space.proofs.set.Set.point_refusal.Goals as goal

pub returns-in_err-check : goal.returns-in_err-check
returns-in_err-check c = exits c.from_residual.result _ c.from_residual.ensures.1 _ (point_order _ _ _ _) c.in_err-check.ensures.refusal

pub returns-then-self-id : goal.returns-then-self-id
returns-then-self-id c =
    sym (passes (point_order _ _ _ _) c.in_ok-check.ensures.refusal refl ∙ simp (le-leb _ _ c.if-self-id.true))

pub returns : goal.returns
returns c = sym (passes (point_order _ _ _ _) c.in_ok-check.ensures.refusal refl ∙ simp (lt-leb _ _ c.if-self-id.false))
