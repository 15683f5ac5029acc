-- `lines::line::number_pairs` has yet to put the pairs that the iterator holds. Assumes nothing.
use Rattle.std.specs.Iterator.Adapters.{zip_first, zip_second}
use Rattle.std.specs.Slice.Iter.{iter_rest}
use Rattle.rules.specs.Lines.{pairs}
use Rattle.lines.proofs.Sinks.{Ahead}
use Rattle.lines.proofs.line.number_pairs.Given as goal

abbrev pub invariant-loop-id : goal.invariant-loop-id
invariant-loop-id g l =
    let sink = g.S.Sink in
    let rest = pairs (iter_rest (zip_first l.id-iterator)) (iter_rest (zip_second l.id-iterator)) in
    (goal.iterator-loop-id g).can_next l.id-iterator ×
    (goal.iterator-loop-id g).is_finite l.id-iterator ×
    Ahead sink.room sink.took l.initial.sink (pairs l.ids l.distances) l.sink rest
