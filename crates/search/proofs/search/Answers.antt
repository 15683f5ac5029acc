-- `search::search` meets its contract. Assumes nothing.
use Prim.Native.Nat.{min}
use mathlib.Core.Path.{◌≡◌, ap₂, ◌∙◌}
use native.Mathlib.Omega.{arith}
use lib.ListN.{length}
use Rattle.std.proofs.lemmas.Result.{err_from_is_err_and}
use Rattle.space.proofs.Told.{number-some}
use Rattle.search.specs.Answer.{asked}
use Rattle.search.proofs.Starting.{started}
use Rattle.search.proofs.Seeing.{few}
use Rattle.search.proofs.Finish.{refusing-first, refusing-next, explored_as, giving}
use Rattle.search.proofs.search.Goals as goal

pub returns-in_err-question : goal.returns-in_err-question
returns-in_err-question c =
    let p = err_from_is_err_and c.from_residual.result c.from_residual.ensures.1 in
    let x = refusing-first (asked c.args.ask.now) _ _ _ _ (rw c.from.ensures at c.in_err-question.ensures.refusal) (number-some _) in
    record { answer = rw (p.1, p.2) x.number; ids = x.ids_stay; distances = x.distances_stay; trail = x.trail_stays }

pub returns-in_err-rest_refusal : goal.returns-in_err-rest_refusal
returns-in_err-rest_refusal c =
    let p = err_from_is_err_and c.from_residual-in_err-rest_refusal.result c.from_residual-in_err-rest_refusal.ensures.1 in
    let x = refusing-next (asked c.args.ask.now) _ _ _ _ (rw c.from.ensures at c.in_ok-question.ensures.refusal) c.in_err-rest_refusal.ensures (number-some _) in
    record { answer = rw (p.1, p.2) x.number; ids = x.ids_stay; distances = x.distances_stay; trail = x.trail_stays }

pub overflow_cast-ask : goal.overflow_cast-ask
overflow_cast-ask c =
    let small = rw c.in_ok-question.ensures.set at (few c.in_ok-question.question) in
    record { fits = omega (arith, small, c.from.ensures, c.in_ok-question.ensures.start) }

pub explore-walked-requires-clause-fresh : goal.explore-walked-requires-clause-fresh
explore-walked-requires-clause-fresh c =
    let of = c.in_ok-question.ensures in
    (started (rw c.from.ensures at of.start) (rw of.set at (few c.in_ok-question.question)) c.new-front.ensures.marks c.see.ensures.marks).fresh

pub returns : goal.returns
returns c =
    let ask = c.args.ask.now in
    let of = c.in_ok-question.ensures in
    let first = started (rw c.from.ensures at of.start) (rw of.set at (few c.in_ok-question.question)) c.new-front.ensures.marks c.see.ensures.marks in
    let explored = explored_as c.in_ok-question.question ask.question of.set of.table of.query of.threshold
    (rw (c.see.ensures.asked, c.new-front.ensures.asked, c.from-2.ensures) at c.explore-walked.ensures) in
    let line = c.explore-walked.new.self.line.items in
    let found : c.min-found.result ≡ min ask.k (length line) = c.min-found.ensures ∙ ap₂ min c.from-3.ensures c.len-seen.ensures.value in
    let x = giving (asked ask) _ _ _ (rw c.from.ensures at of.refusal) c.in_ok-rest_refusal.ensures first.only explored found
    (rw c.deref.ensures.0 at c.answer.ensures.ids) (rw c.deref.ensures.0 at c.answer.ensures.distances) in
    record { answer = rw c.len-seen.ensures.value x.counts; ids = x.ids_hold; distances = x.distances_hold; trail = x.trail-holds }
