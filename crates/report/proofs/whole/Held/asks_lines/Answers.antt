-- `report::whole::Held::asks_lines` meets its contract. Assumes nothing.
use Rattle.lines.proofs.Ends.{is_too_short}
use Rattle.report.proofs.Pages.{paged_told}
use Rattle.report.proofs.Sheets.{asks-few, asks_none, asks-next, asks-short}
use Prim.Native.Nat.{◌+◌}
use native.Mathlib.Omega.{arith}
use Rattle.report.proofs.whole.Held.asks_lines.Goals as goal

pub loop-number-init : goal.loop-number-init
loop-number-init c = (omega arith, asks_none _ _ _ _ c.requires)

pub overflow_cast-number : goal.overflow_cast-number
overflow_cast-number c =
    let s = c.args.self.now in
    record { fits = omega (arith, c.loop-number-test.true, s.asks_are, asks-few s.sheet.now s.given.readable) }

pub returns-in_err-end : goal.returns-in_err-end
returns-in_err-end c =
    let turn = c.loop-number in
    let short = asks-short _ _ _ (turn.number + 1) (omega arith) (asks-next _ _ turn.number turn.invariant.1 c.ask_lines.ensures c.in_err-end.was) in
    paged_told (is_too_short c.from_residual.ensures.0) short

pub loop-number-preserved : goal.loop-number-preserved
loop-number-preserved c =
    let turn = c.loop-number in
    (omega arith, asks-next _ _ turn.number turn.invariant.1 c.ask_lines.ensures c.in_ok-end.was)
