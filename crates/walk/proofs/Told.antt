-- The answers lose nothing: two that say the same are the same, so that each contract fixes its result. Assumes nothing.
use mathlib.Core.Path.{◌≡◌, refl}
use Rattle.std.specs.Prelude.{Result}
use Rattle.space.specs.declared.refusal.Refusal.{Refusal}
use Rattle.space.proofs.Told.{told-one}
use Rattle.walk.specs.declared.answers.Walk.{Walk}
use Rattle.walk.specs.declared.answers.Step.{Step}
use Rattle.walk.specs.declared.answers.Step.TheVariants.{Moved, AtEnd}
use Rattle.walk.specs.declared.answers.Stepped.{Stepped}
use Rattle.walk.specs.declared.answers.End.{End}
use Rattle.walk.specs.Answers.{record_of, record_in, step_is, told, end_in, told_end}

step_one : (a b : Step) → step_is a ≡ step_is b → a ≡ b
step_one Moved Moved e = refl
step_one Moved AtEnd e = cc
step_one AtEnd Moved e = cc
step_one AtEnd AtEnd e = refl

pub step_told : (a b : Result Step Refusal) → told a ≡ told b → a ≡ b
step_told a b e = told-one step_is step_one a b e

pub record_told : (v w : Walk) → record_of v ≡ record_of w → v ≡ w
record_told v w e = λ i. record { current = (e i).current; moves = (e i).moves }

pub stepped-told : (r s : Stepped) → told r.answer ≡ told s.answer → record_in r ≡ record_in s → r ≡ s
stepped-told r s a e = λ i. record { answer = step_told r.answer s.answer a i; walk = record_told r.walk s.walk e i }

end_told : (e f : End) → end_in e ≡ end_in f → e ≡ f
end_told e f q = λ i. record { last = (q i).last; distance = (q i).distance; moves = (q i).moves }

pub walk-told : (a b : Result End Refusal) → told_end a ≡ told_end b → a ≡ b
walk-told a b e = told-one end_in end_told a b e
