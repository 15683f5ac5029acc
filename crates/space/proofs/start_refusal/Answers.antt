-- `space::start_refusal` meets its contract: the set's refusal first, then those of the table, the query and the id. Assumes nothing.
use mathlib.Core.Path.{refl, sym, ◌∙◌}
use native.Mathlib.Omega.{arith}
use borrow.Author.Tests.{eq-eqb, ne_eqb, le-leb, lt-leb}
use Rattle.laws.proofs.Refusals.{set_ok, small-square}
use Rattle.laws.proofs.RefusalOrder.{passes, start_order}
use Rattle.space.proofs.Told.{exits}
use Rattle.space.proofs.start_refusal.Goals as goal

pub returns-in_err-set_refusal : goal.returns-in_err-set_refusal
returns-in_err-set_refusal c = exits c.from_residual.result _ c.from_residual.ensures.1 _ (start_order _ _ _ _ _ _) c.in_err-set_refusal.ensures

pub overflow_mul-n : goal.overflow_mul-n
overflow_mul-n c =
    let ok = set_ok _ _ _ (sym (c.in_ok-set_refusal.ensures)) in
    record { fits = omega (arith, small-square c.args.n ok.few-points) }

pub returns-then-table-n : goal.returns-then-table-n
returns-then-table-n c = sym (passes (start_order _ _ _ _ _ _) (c.in_ok-set_refusal.ensures) refl ∙ simp (ne_eqb _ _ c.if-table-n.true))

pub returns-then-query-d : goal.returns-then-query-d
returns-then-query-d c =
    sym
    (passes (start_order _ _ _ _ _ _) (c.in_ok-set_refusal.ensures) refl
    ∙ simp (eq-eqb _ _ c.if-table-n.false, ne_eqb _ _ c.if-query-d.true))

pub returns-then-n-start : goal.returns-then-n-start
returns-then-n-start c =
    sym
    (passes (start_order _ _ _ _ _ _) (c.in_ok-set_refusal.ensures) refl
    ∙ simp (eq-eqb _ _ c.if-table-n.false, eq-eqb _ _ c.if-query-d.false, le-leb _ _ c.if-n-start.true))

pub returns : goal.returns
returns c =
    sym
    (passes (start_order _ _ _ _ _ _) (c.in_ok-set_refusal.ensures) refl
    ∙ simp (eq-eqb _ _ c.if-table-n.false, eq-eqb _ _ c.if-query-d.false, lt-leb _ _ c.if-n-start.false))
