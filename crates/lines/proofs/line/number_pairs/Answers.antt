-- `lines::line::number_pairs` meets its contract. Assumes nothing.
use Rattle.std.proofs.lemmas.Slice.Zip.{Zip-more, either_empty_from_Zip}
use Rattle.lines.proofs.Sinks.{ahead_more, ahead_stopped, ahead_end}
use Rattle.lines.proofs.Runs.{pairs_next, pairs-none}
use Rattle.lines.proofs.line.number_pairs.Goals as goal

pub returns-in_err-pair : goal.returns-in_err-pair
returns-in_err-pair g c =
    let turn = Zip-more c.loop-id.id-iterator c.next.new.self _ (c.in-Some.id, c.in-Some.distance) c.in-Some.is c.next.ensures.steps in
    ahead_stopped _ c.loop-id.invariant.2 (pairs_next turn.0 turn.1) c.from_residual.ensures.0 (rw c.from.ensures at c.in_err-pair.ensures)

pub loop-id-preserved : goal.loop-id-preserved
loop-id-preserved g c =
    let turn = Zip-more c.loop-id.id-iterator c.next.new.self _ (c.in-Some.id, c.in-Some.distance) c.in-Some.is c.next.ensures.steps in
    ((tt, tt), tt, ahead_more g.met.S.Sink.laws c.loop-id.invariant.2 (pairs_next turn.0 turn.1) (rw c.from.ensures at c.in_ok-pair.ensures.ok))

pub returns : goal.returns
returns g c =
    let none = either_empty_from_Zip c.loop-id.id-iterator c.next.new.self _ c.in-None.is c.next.ensures.steps in
    ahead_end g.met.S.Sink.laws c.loop-id.invariant.2 (pairs-none _ _ none)
