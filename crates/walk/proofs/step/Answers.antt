-- Refused, at its end, one move too many, or a move.
use mathlib.Core.Path.{sym, ◌∙◌}
use Rattle.std.proofs.lemmas.Result.{err_from_is_err_and}
use Rattle.space.proofs.Told.{number-some}
use Rattle.walk.proofs.Standing.{goes_same}
use Rattle.walk.proofs.Steps.{step_stops, step_ends, step_full, step_moves}
use Rattle.walk.proofs.step.Goals as goal

pub returns-in_err-stand : goal.returns-in_err-stand
returns-in_err-stand c =
    let p = err_from_is_err_and c.from_residual.result c.from_residual.ensures.1 in
    let s = step_stops _ _ _ _ _ _ _ _ (number-some _) c.in_err-stand.ensures.refusal in
    record { answer = rw (p.1, p.2) s.0; walk_after = s.1 }

pub returns-in_default : goal.returns-in_default
returns-in_default c =
    let stand = c.in_ok-stand.ensures in
    let to = sym (goes_same stand.same stand.start) ∙ c.in_default.ensures.moves in
    let s = step_ends _ _ _ _ _ _ _ (sym stand.refusal) to in
    record { answer = s.0; walk_after = s.1 }

pub returns-then-walk-ge127 : goal.returns-then-walk-ge127
returns-then-walk-ge127 c =
    let stand = c.in_ok-stand.ensures in
    let to = sym (goes_same stand.same stand.start) ∙ c.in-Some.ensures.moves in
    let s = step_full _ _ _ _ _ _ _ (sym stand.refusal) _ to c.if-walk-ge127.true in
    record { answer = s.0; walk_after = s.1 }

pub returns : goal.returns
returns c =
    let stand = c.in_ok-stand.ensures in
    let to = sym (goes_same stand.same stand.start) ∙ c.in-Some.ensures.moves in
    let s = step_moves _ _ _ _ _ _ _ (sym stand.refusal) _ to c.if-walk-ge127.false in
    record { answer = s.0; walk_after = s.1 }
