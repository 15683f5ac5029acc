-- The answers of the walk's entries, and its record, as those of document 01.
use Rattle.std.specs.Prelude.{ℕ, Result}
use Rattle.rules.specs.Outcome.{Outcome}
use Rattle.rules.specs.Walk.{Walk as Record, Step as Kind, moved, at_end}
use Rattle.rules.specs.Entries.{End as Ending}
use Rattle.space.specs.declared.refusal.Refusal.{Refusal}
use Rattle.space.specs.Told as space
use Rattle.walk.specs.declared.answers.Walk.{Walk}
use Rattle.walk.specs.declared.answers.Step.{Step}
use Rattle.walk.specs.declared.answers.Step.TheVariants.{Moved, AtEnd}
use Rattle.walk.specs.declared.answers.Stepped.{Stepped}
use Rattle.walk.specs.declared.answers.End.{End}

-- the record with these fields, the record that a caller keeps, and the one that a step hands back
abbrev pub at : ℕ → ℕ → Record
at current moves = record { current = current; moves = moves }

abbrev pub record_of : Walk → Record
record_of w = at w.current w.moves

abbrev pub record_in : Stepped → Record
record_in s = record_of s.walk

-- a step's answer
abbrev pub step_is : Step → Kind
step_is Moved = moved
step_is AtEnd = at_end

abbrev pub told : Result Step Refusal → Outcome Kind
told r = space.told step_is r

-- the whole walk's answer
abbrev pub end_in : End → Ending
end_in e = record { last = e.last; distance = e.distance; moves = e.moves }

abbrev pub told_end : Result End Refusal → Outcome Ending
told_end r = space.told end_in r
