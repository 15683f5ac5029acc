-- `sheet::refuse::check_asks` meets its contract. Assumes nothing.
use Rattle.std.proofs.Common.{ap, ◌∙◌, arith, length-drop}
use Rattle.std.proofs.lemmas.Result.{err_from_is_err_and}
use Rattle.rules.specs.Refusals.{ask_refusal}
use Rattle.sheet.proofs.Refusing.{row_stops, row_passes, asks_done}
use Rattle.sheet.proofs.refuse.check_asks.Goals as goal

pub loop-row-preserved : goal.loop-row-preserved
loop-row-preserved c =
    let l = c.loop-row in
    row_passes c.args.numbers.now _ l.row-index _ c.as_chunks.ensures.front (omega (arith, l.auto, c.loop-row-test.true, c.as_chunks.ensures.front_len)) l.invariant
    (c.in_ok-check.ensures ∙ ap ask_refusal c.from.ensures)

pub returns-in_err-check : goal.returns-in_err-check
returns-in_err-check c =
    let l = c.loop-row in
    let p = err_from_is_err_and c.from_residual.result c.from_residual.ensures.1 in
    rw (p.1, p.2) (row_stops c.args.numbers.now _ l.row-index _ c.as_chunks.ensures.front (omega (arith, l.auto, c.loop-row-test.true, c.as_chunks.ensures.front_len)) l.invariant
    _ (c.in_err-check.ensures ∙ ap ask_refusal c.from.ensures))

pub returns : goal.returns
returns c = asks_done _ c.loop-row.invariant (rw length-drop (omega (arith, c.loop-row.auto, c.loop-row-test.false, c.as_chunks.ensures.front_len)))
