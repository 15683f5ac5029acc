-- The public functions beside the entries: two calls on the same input that meet the contract agree in all of it, by the one lemma. Assumes nothing.
use Prim.Native.Nat.{ℕ}
use mathlib.Core.Path.{◌≡◌, refl, sym, ap}
use mathlib.Core.Bool.{Bool}
use mathlib.Core.List.{List}
use lib.IntN.{ℤ}
use Rattle.std.specs.Prelude.{Result, Ok, Err}
use Rattle.std.proofs.lemmas.Result.{IfOk-at_ok}
use Rattle.space.specs.declared.refusal.Refusal.{Refusal}
use Rattle.space.specs.declared.set.Set.{Set}
use Rattle.space.specs.declared.set.Points.{Points}
use Rattle.space.specs.declared.question.Question.{Question}
use Rattle.space.specs.declared.question.Asked.{Asked}
use Rattle.space.specs.Told.{number_in}
use Rattle.space.proofs.Told.{number-one, number-some}
use Rattle.space.proofs.Same.{points_one, asked_one}
use Rattle.walk.specs.declared.answers.Stepped.{Stepped}
use Rattle.walk.specs.Answers.{at, record_in}
use Rattle.walk.proofs.Told.{stepped-told}
use Rattle.sheet.specs.declared.place.Place.{Place}
use Rattle.std.specs.Prelude.{Result}
use Rattle.lines.specs.declared.TooShort.{TooShort}
use Rattle.demands.specs.Calls.{StepCall}
use Rattle.demands.specs.OtherCalls.{OutsideCall, SetRefusalCall, StartRefusalCall, SmallerCall, MeasureCall, CheckCall, CoordinatesCall, ApartCall, QuestionCheckCall, AwayCall, KeyCall, IdCall, DistanceInCall, LabelCall, FieldCall, PlacedCall, PageCall}
use Rattle.demands.proofs.Fixed.{one}

-- ---- `space`

pub is-outside_fixed : {low high x : ℕ} {r s : Bool} → OutsideCall low high x r → OutsideCall low high x s → r ≡ s
is-outside_fixed g h = one g.answers h.answers

pub set_refusal_fixed : {n d len x y : ℕ} → SetRefusalCall n d len x → SetRefusalCall n d len y → x ≡ y
set_refusal_fixed g h = one g.answers h.answers

pub start_refusal_fixed : {n d vectors table query start x y : ℕ}
    → StartRefusalCall n d vectors table query start x
    → StartRefusalCall n d vectors table query start y
    → x ≡ y
start_refusal_fixed g h = one g.answers h.answers

pub smaller_fixed : {x y r s : ℕ} → SmallerCall x y r → SmallerCall x y s → r ≡ s
smaller_fixed g h = one g.answers h.answers

pub measure_fixed : {n d id x y : ℕ} {vectors query : List ℤ} → MeasureCall n d vectors id query x → MeasureCall n d vectors id query y → x ≡ y
measure_fixed g h = one g.answers h.answers

-- an answer that gives nothing is its number, so that the two above and those of `Fixed` fix it
pub number-in_fixed : (r s : Result (Unit {0}) Refusal) → number_in r ≡ number_in s → r ≡ s
number-in_fixed (Ok a) (Ok b) e = refl
number-in_fixed (Ok a) (Err s) e = absurd (number-some s (sym e))
number-in_fixed (Err r) (Ok b) e = absurd (number-some r e)
number-in_fixed (Err r) (Err s) e = ap Err (number-one r s e)

-- what is handed on is fixed by its fields
checked-one : {A : Type 0} (r s : Result A Refusal) → number_in r ≡ number_in s → ((a b : A) → r ≡ Ok a → s ≡ Ok b → a ≡ b) → r ≡ s
checked-one (Ok a) (Ok b) e one = ap Ok (one a b refl refl)
checked-one (Ok a) (Err s) e one = absurd (number-some s (sym e))
checked-one (Err r) (Ok b) e one = absurd (number-some r e)
checked-one (Err r) (Err s) e one = ap Err (number-one r s e)

pub check_fixed : {s : Set} {p q : Result Points Refusal} → CheckCall s p → CheckCall s q → p ≡ q
check_fixed {p = p} {q = q} g h =
    checked-one p q (one g.answers h.answers)
    (λ a b e f. points_one a b (one (IfOk-at_ok _ e g.same) (IfOk-at_ok _ f h.same)))

pub question-check_fixed : {q : Question} {start : ℕ} {r s : Result Asked Refusal}
    → QuestionCheckCall q start r
    → QuestionCheckCall q start s
    → r ≡ s
question-check_fixed {r = r} {s = s} g h =
    checked-one r s (one g.answers h.answers)
    (λ a b e f.
    asked_one a b
    (points_one a.points b.points (one (IfOk-at_ok _ e g.set_is) (IfOk-at_ok _ f h.set_is)))
    (one (IfOk-at_ok _ e g.table_is) (IfOk-at_ok _ f h.table_is))
    (one (IfOk-at_ok _ e g.query_is) (IfOk-at_ok _ f h.query_is))
    (one (IfOk-at_ok _ e g.threshold_is) (IfOk-at_ok _ f h.threshold_is)))

pub coordinates_fixed : {d id : ℕ} {vectors p q : List ℤ} → CoordinatesCall d vectors id p → CoordinatesCall d vectors id q → p ≡ q
coordinates_fixed g h = one g.hands h.hands

pub apart_fixed : {d u v x y : ℕ} {vectors : List ℤ} → ApartCall d vectors u v x → ApartCall d vectors u v y → x ≡ y
apart_fixed g h = one g.answers h.answers

pub away_fixed : {d id x y : ℕ} {vectors query : List ℤ} → AwayCall d vectors query id x → AwayCall d vectors query id y → x ≡ y
away_fixed g h = one g.answers h.answers

pub key_fixed : {d id x y : ℕ} {vectors query : List ℤ} → KeyCall d vectors query id x → KeyCall d vectors query id y → x ≡ y
key_fixed g h = one g.answers h.answers

pub id_fixed : {key x y : ℕ} → IdCall key x → IdCall key y → x ≡ y
id_fixed g h = one g.answers h.answers

pub distance-in_fixed : {key x y : ℕ} → DistanceInCall key x → DistanceInCall key y → x ≡ y
distance-in_fixed g h = one g.answers h.answers

-- ---- `table`

pub label_fixed : {duv dwv x y : ℕ} → LabelCall duv dwv x → LabelCall duv dwv y → x ≡ y
label_fixed g h = one g.answers h.answers

-- ---- `walk::step_at`, which hands the record back

pub step_at_fixed : {n d threshold current moves : ℕ} {vectors query : List ℤ} {table : List ℕ} {r s : Stepped}
    → StepCall n d vectors table query threshold (at current moves) r.answer (record_in r)
    → StepCall n d vectors table query threshold (at current moves) s.answer (record_in s)
    → r ≡ s
step_at_fixed {r = r} {s = s} g h = stepped-told r s (one g.answers h.answers) (one g.record_holds h.record_holds)

-- ---- `sheet::place`: the sheet and the next bit are the whole place

pub place_fixed : (r s : Place) → r.sheet ≡ s.sheet → r.next ≡ s.next → r ≡ s
place_fixed r s p q = λ i. record { sheet = p i; next = q i }

pub field_fixed : {ys : List ℕ} {at bits x y : ℕ} → FieldCall ys at bits x → FieldCall ys at bits y → x ≡ y
field_fixed g h = one g.answers h.answers

-- ---- every function of `lines`, and `report::ask_lines` and `report::print`, whatever the bytes l

pub placed_fixed : {from : ℕ} {l output o p : List ℕ} {r s : Result ℕ TooShort} → PlacedCall from l output r o → PlacedCall from l output s p → (r ≡ s) × (o ≡ p)
placed_fixed g h = (one g.answers h.answers, one g.output_holds h.output_holds)

pub page_fixed : {p q : List ℕ} → PageCall p → PageCall q → p ≡ q
page_fixed g h = one g.is_blank h.is_blank
