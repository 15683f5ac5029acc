-- A question that is not refused is as `Asked` says. Assumes nothing.
use mathlib.Core.Path.{sym}
use Rattle.laws.proofs.RefusalOrder.{start_ok}
use Rattle.space.proofs.question.Question.check.Goals as goal

pub invariant_of-result : goal.invariant_of-result
invariant_of-result c = record { given = (start_ok _ _ _ _ _ _ (sym c.in_ok-start_refusal.ensures)).asked.set_given }

pub invariant_of-result-2 : goal.invariant_of-result-2
invariant_of-result-2 c =
    let ok = start_ok _ _ _ _ _ _ (sym c.in_ok-start_refusal.ensures) in
    record { table_is = ok.table_is; query_is = ok.asked.query-is }

pub returns-clause-start : goal.returns-clause-start
returns-clause-start c = (start_ok _ _ _ _ _ _ (sym c.in_ok-start_refusal.ensures)).start_in
