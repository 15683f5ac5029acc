-- What a search is asked and what it answers, in the rules' terms, and what a key of the line says.
use Rattle.std.specs.Prelude.{ℕ, ◌/◌, ◌%◌, Result}
use Rattle.rules.specs.Outcome.{Outcome}
use Rattle.rules.specs.Entries as rules
use Rattle.space.specs.declared.refusal.Refusal.{Refusal}
use Rattle.space.specs.Told as outcome
use Rattle.search.specs.declared.Ask.{Ask}
use Rattle.search.specs.declared.Counts.{Counts}

abbrev pub asked : Ask → rules.Ask
asked a =
    rules.ask a.question.set.n a.question.set.d a.question.set.vectors.now a.question.table.now a.question.query.now
    a.start a.question.threshold a.width a.k

abbrev pub counted : Counts → rules.Counts
counted c = record { found = c.found; seen = c.seen; walked = c.walked }

-- the number of a refusal, or found, seen and walked
abbrev pub told : Result Counts Refusal → Outcome rules.Counts
told r = outcome.told counted r

-- a key is D × 128 + id
abbrev pub id_of : ℕ → ℕ
id_of key = key % 128

abbrev pub distance_of : ℕ → ℕ
distance_of key = key / 128
