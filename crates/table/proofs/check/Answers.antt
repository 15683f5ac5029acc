-- The set's refusal first, then the table's.
use mathlib.Core.Path.{refl, sym, ◌∙◌}
use native.Mathlib.Omega.{arith}
use borrow.Author.Tests.{eq-eqb, ne_eqb}
use Rattle.laws.proofs.Refusals.{set_ok, small-square}
use Rattle.laws.proofs.RefusalOrder.{passes, build_order}
use Rattle.space.proofs.Told.{exits}
use Rattle.table.proofs.check.Goals as goal

pub returns-in_err-points-clause-refusal : goal.returns-in_err-points-clause-refusal
returns-in_err-points-clause-refusal c =
    exits c.from_residual.result _ c.from_residual.ensures.1 _ (build_order _ _ _ _) c.in_err-points.ensures.refusal

pub overflow_mul-set : goal.overflow_mul-set
overflow_mul-set c =
    let ok = set_ok _ _ _ (sym c.in_ok-points.ensures.refusal) in
    record { fits = omega (arith, small-square c.args.set.now.n ok.few-points) }

pub returns-then-table-set-clause-refusal : goal.returns-then-table-set-clause-refusal
returns-then-table-set-clause-refusal c =
    sym (passes (build_order _ _ _ _) c.in_ok-points.ensures.refusal refl ∙ simp (ne_eqb _ _ c.if-table-set.true))

pub returns-clause-refusal : goal.returns-clause-refusal
returns-clause-refusal c =
    sym (passes (build_order _ _ _ _) c.in_ok-points.ensures.refusal refl ∙ simp (eq-eqb _ _ c.if-table-set.false))
