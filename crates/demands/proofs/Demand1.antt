-- Demand 1, entry by entry. Assumes nothing.
use Prim.Native.Nat.{ℕ}
use native.Mathlib.Omega.{arith}
use Rattle.std.specs.Prelude.{Result, Ok, Err}
use mathlib.Core.Path.{◌≡◌, refl, sym, ap, ◌∙◌}
use mathlib.Core.Logic.{◌≢◌}
use mathlib.Core.List.{List, []}
use lib.IntN.{ℤ}
use lib.ListN.{length}
use Rattle.rules.specs.Outcome.{refused, outcome}
use Rattle.rules.specs.Walk.{Walk}
use Rattle.rules.specs.Sheet.{Contents}
use Rattle.rules.specs.Refusals.{point_refusal, build_refusal, walk_refusal, sheet_refusal, vectors_refusal, one_ask_refusal}
use Rattle.rules.specs.Entries.{Ask, point_of, table_after, refusal_of, search_answer, ids_after, distances_after, trail_after, step_refused, step_answer, record_after, walk_answer, write_refused, write_answer, output_after, header_answer, vectors_after, ask_answer, query_after}
use Rattle.laws.proofs.Refusals.{after_old, outcome-refused, outcome-number}
use Rattle.space.specs.declared.refusal.Refusal.{Refusal}
use Rattle.space.specs.Told.{number, told}
use Rattle.search.specs.declared.Counts.{Counts}
use Rattle.walk.specs.declared.answers.Step.{Step}
use Rattle.walk.specs.declared.answers.End.{End}
use Rattle.sheet.specs.declared.Head.{Head}
use Rattle.sheet.specs.declared.Numbers.{Numbers}
use Rattle.demands.specs.Calls.{PointCall, PointRefusalCall, BuildCall, SearchCall, StepCall, WalkCall, WriteCall, HeaderCall, VectorsCall, AskCall}
use Rattle.demands.specs.Demand1.{AnswersNumber, Refuses}

-- an answer that says what its order and its values give is a refusal exactly where the order gives a number
module _ {A B : Type 0} (f : A → B) where
  err_of : (answer : Result A Refusal) (given : ℕ) → told f answer ≡ refused given → (r : Refusal) × (answer ≡ Err r) × (number r ≡ given)
  err_of (Ok a) given e = let z : ◌≡◌ {A = ℕ} 0 1 = cc in absurd (omega arith)
  err_of (Err r) given e = (r, refl, cc)

  refuses : (answer : Result A Refusal) (given : ℕ) (gives : B)
      → told f answer ≡ outcome given gives
      → {Unchanged : Type 0}
      → (given ≢ 0 → Unchanged)
      → Refuses answer given Unchanged
  refuses answer given gives is unchanged =
      record {
        refused = λ z. err_of answer given (is ∙ outcome-refused z gives);
        only_then = λ r e. let q = outcome-number given gives (number r) (sym is ∙ ap (told f) e) in (q.1, q.0);
        unchanged = unchanged;
      }

-- ---- points and tables

pub point_refuses : {n d id number : ℕ} {vectors part : List ℤ}
    → PointCall n d vectors id part
    → PointRefusalCall n d vectors id number
    → AnswersNumber number (point_refusal n d (length vectors) id) (part ≡ [])
unfolding point_of
point_refuses h r = record { number_is = r.answers; unchanged = λ z. h.hands ∙ after_old z _ _ }

pub build_refuses : {n d number : ℕ} {vectors : List ℤ} {table table' : List ℕ}
    → BuildCall n d vectors table number table'
    → AnswersNumber number (build_refusal n d (length vectors) (length table)) (table' ≡ table)
unfolding table_after
build_refuses h = record { number_is = h.answers; unchanged = λ z. h.table-holds ∙ after_old z _ _ }

-- ---- the search

pub search_refuses : {a : Ask} {ids distances trail ids' distances' trail' : List ℕ} {r : Result Counts Refusal}
    → SearchCall a ids distances trail r ids' distances' trail'
    → Refuses r (refusal_of a ids distances trail) ((ids' ≡ ids) × (distances' ≡ distances) × (trail' ≡ trail))
unfolding search_answer ids_after distances_after trail_after
search_refuses h =
    refuses _ _ _ _ h.answers
    (λ z. (h.ids_hold ∙ after_old z _ _, h.distances_hold ∙ after_old z _ _, h.trail-holds ∙ after_old z _ _))

-- ---- the walk

module _ {n d threshold : ℕ} {vectors query : List ℤ} {table : List ℕ} where
  pub step_refuses : {w w' : Walk} {r : Result Step Refusal}
      → StepCall n d vectors table query threshold w r w'
      → Refuses r (step_refused n d vectors table query threshold w) (w' ≡ w)
  unfolding step_answer record_after
  step_refuses h =
      refuses _ _ _ _ h.answers (λ z. h.record_holds ∙ after_old z _ _)

  pub walk_refuses : {start : ℕ} {r : Result End Refusal}
      → WalkCall n d vectors table query threshold start r
      → Refuses r (walk_refusal n d (length vectors) (length table) (length query) start threshold) Unit
  unfolding walk_answer
  walk_refuses h = refuses _ _ _ _ h.answers (λ z. tt)

-- ---- sheets

pub write_refuses : {k : Contents} {output output' : List ℕ} {r : Result ℕ Refusal}
    → WriteCall k output r output'
    → Refuses r (write_refused k output) (output' ≡ output)
unfolding write_answer output_after
write_refuses h = refuses _ _ _ _ h.answers (λ z. h.output_holds ∙ after_old z _ _)

pub header_refuses : {ys : List ℕ} {r : Result Head Refusal} → HeaderCall ys r → Refuses r (sheet_refusal ys) Unit
unfolding header_answer
header_refuses h = refuses _ _ _ _ h.answers (λ z. tt)

pub vectors_refuses : {ys : List ℕ} {buffer buffer' : List ℤ} {number : ℕ}
    → VectorsCall ys buffer number buffer'
    → AnswersNumber number (vectors_refusal ys (length buffer)) (buffer' ≡ buffer)
unfolding vectors_after
vectors_refuses h = record { number_is = h.answers; unchanged = λ z. h.buffer_holds ∙ after_old z _ _ }

pub ask_refuses : {ys : List ℕ} {i : ℕ} {query query' : List ℤ} {r : Result Numbers Refusal}
    → AskCall ys i query r query'
    → Refuses r (one_ask_refusal ys i (length query)) (query' ≡ query)
unfolding ask_answer query_after
ask_refuses h = refuses _ _ _ _ h.answers (λ z. h.query-holds ∙ after_old z _ _)
