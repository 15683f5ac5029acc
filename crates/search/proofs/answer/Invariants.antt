-- `search::answer` meets its contract. Assumes nothing.
use Rattle.search.specs.Answer.{id_of, distance_of}
use Rattle.search.proofs.Filling.{Filled}
use Rattle.search.proofs.answer.Given as goal

abbrev pub invariant-loop-i : goal.invariant-loop-i
invariant-loop-i l =
    Filled id_of l.line l.initial.ids l.i l.ids × Filled distance_of l.line l.initial.distances l.i l.distances
