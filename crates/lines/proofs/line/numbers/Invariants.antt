-- `lines::line::numbers` has put the numbers before the index. Assumes nothing.
use Rattle.std.proofs.Common.{drop}
use Rattle.rules.specs.Lines.{parts}
use Rattle.lines.proofs.Sinks.{Ahead}
use Rattle.lines.proofs.line.numbers.Given as goal

abbrev pub invariant-loop-id : goal.invariant-loop-id
invariant-loop-id g l =
    let sink = g.S.Sink in Ahead sink.room sink.took l.initial.sink (parts l.ids) l.sink (parts (drop l.id-index l.ids))
