-- What the public functions beside the entries promise of one call, as `Calls` says it of the entries.
use Rattle.std.specs.Prelude.{ℕ, ◌/◌, ◌%◌, min, ◌≡◌, Bool, List, ℤ, take, replicate, Result, IfOk, length}
use Rattle.rules.specs.Points.{dist, coordinates, apart, away}
use Rattle.rules.specs.Order.{keyed}
use Rattle.rules.specs.Labels.{label_of}
use Rattle.rules.specs.Sheet.{field_at}
use Rattle.rules.specs.Refusals.{outside, set_refusal, start_refusal}
use Rattle.rules.specs.Entries.{point_of}
use Rattle.space.specs.declared.refusal.Refusal.{Refusal}
use Rattle.space.specs.declared.set.Set.{Set}
use Rattle.space.specs.declared.set.Points.{Points}
use Rattle.space.specs.declared.question.Question.{Question}
use Rattle.space.specs.declared.question.Asked.{Asked}
use Rattle.space.specs.Told.{number_in}
use Rattle.lines.specs.declared.TooShort.{TooShort}
use Rattle.lines.specs.Placing.{placed_answer, placed_after}

-- ---- `space`

pub record OutsideCall (low high x : ℕ) (r : Bool) : Type 0 where
  pub answers : r ≡ outside low high x

pub record SetRefusalCall (n d len number : ℕ) : Type 0 where
  pub answers : number ≡ set_refusal n d len

pub record StartRefusalCall (n d vectors table query start number : ℕ) : Type 0 where
  pub answers : number ≡ start_refusal n d vectors table query start

pub record SmallerCall (x y r : ℕ) : Type 0 where
  pub answers : r ≡ min x y

pub record MeasureCall (n d : ℕ) (vectors : List ℤ) (id : ℕ) (query : List ℤ) (r : ℕ) : Type 0 where
  pub answers : r ≡ dist (take 64 (point_of n d vectors id)) (take 64 query)

-- `Set::check` and `Question::check`: the set or the question is handed on as one that is not refused

pub record CheckCall (s : Set) (r : Result Points Refusal) : Type 0 where
  pub answers : number_in r ≡ set_refusal s.n s.d (length s.vectors.now)
  pub same : IfOk r (λ p. p.set ≡ s)

pub record QuestionCheckCall (q : Question) (start : ℕ) (r : Result Asked Refusal) : Type 0 where
  pub answers : number_in r
      ≡ start_refusal q.set.n q.set.d (length q.set.vectors.now) (length q.table.now) (length q.query.now) start
  pub set_is : IfOk r (λ a. a.points.set ≡ q.set)
  pub table_is : IfOk r (λ a. a.table ≡ q.table)
  pub query_is : IfOk r (λ a. a.query ≡ q.query)
  pub threshold_is : IfOk r (λ a. a.threshold ≡ q.threshold)

-- what such a set and such a question give

pub record CoordinatesCall (d : ℕ) (vectors : List ℤ) (id : ℕ) (part : List ℤ) : Type 0 where
  pub hands : part ≡ coordinates d vectors id

pub record ApartCall (d : ℕ) (vectors : List ℤ) (u v r : ℕ) : Type 0 where
  pub answers : r ≡ apart d vectors u v

pub record AwayCall (d : ℕ) (vectors query : List ℤ) (id r : ℕ) : Type 0 where
  pub answers : r ≡ away d vectors query id

pub record KeyCall (d : ℕ) (vectors query : List ℤ) (id r : ℕ) : Type 0 where
  pub answers : r ≡ keyed (away d vectors query) id

-- the two parts of a key

pub record IdCall (key r : ℕ) : Type 0 where
  pub answers : r ≡ key % 128

pub record DistanceInCall (key r : ℕ) : Type 0 where
  pub answers : r ≡ key / 128

-- ---- `table::label`: a number past the largest squared distance counts as that

pub record LabelCall (duv dwv r : ℕ) : Type 0 where
  pub answers : r ≡ label_of (min duv 4161600) (min dwv 4161600)

-- ---- `sheet::field_from`: at most 16 bits, and a field ends where the sheet does

pub record FieldCall (ys : List ℕ) (at bits r : ℕ) : Type 0 where
  pub answers : r ≡ field_at ys at (min bits 16)

-- ---- every function of `lines`, and `report::ask_lines` and `report::print`: the bytes l are placed from `at` on where there is room for all of them

pub record PlacedCall (at : ℕ) (l output : List ℕ) (r : Result ℕ TooShort) (output' : List ℕ) : Type 0 where
  pub answers : r ≡ placed_answer at l output
  pub output_holds : output' ≡ placed_after at l output

-- ---- `report::page`

pub record PageCall (page : List ℕ) : Type 0 where
  pub is_blank : page ≡ replicate 270000 0
