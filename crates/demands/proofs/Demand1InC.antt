-- Demand 1 of the C functions: the number answered is the order's, 0 for none, and a refusal leaves every lent cell as it was. `magpiehinge_build` and
-- `magpiehinge_vectors` promise what the entries promise. Assumes nothing.
use Prim.Native.Nat.{ℕ, zero, suc}
use mathlib.Core.Path.{◌≡◌, refl, ap, ◌∙◌}
use mathlib.Core.Logic.{◌≢◌}
use mathlib.Core.List.{List}
use lib.IntN.{ℤ}
use lib.ListN.{length}
use Rattle.rules.specs.Outcome.{outcome}
use Rattle.rules.specs.Walk.{Walk}
use Rattle.rules.specs.Sheet.{Contents}
use Rattle.rules.specs.Refusals.{point_refusal, walk_refusal, sheet_refusal, one_ask_refusal}
use Rattle.rules.specs.Entries.{Ask, refusal_of, search_answer, ids_after, distances_after, trail_after, step_refused, step_answer, record_after, walk_answer, write_refused, write_answer, output_after, header_answer, ask_answer, query_after}
use Rattle.laws.proofs.Refusals.{after_old}
use Rattle.cabi.specs.Plain.{number_of, cell_after}
use Rattle.demands.specs.CallsInC.{PointInC, SearchInC, StepInC, WalkInC, WriteInC, HeaderInC, AskInC}
use Rattle.demands.specs.Demand1.{AnswersNumber}

module _ {A : Type 0} where
  -- the number of an answer is the order's
  number_of_lem : (given : ℕ) (a : A) → number_of (outcome given a) ≡ given
  unfolding outcome
  number_of_lem zero a = refl
  number_of_lem (suc r) a = refl

  -- a refusal leaves the cell of a value as it was
  cell_old : (given : ℕ) → given ≢ 0 → (a : A) (value : A → ℕ) (old : ℕ) → cell_after (outcome given a) value old ≡ old
  unfolding outcome
  cell_old zero z a value old = absurd (z refl)
  cell_old (suc r) z a value old = refl

pub point_in_c_refuses : {n d id start count number start' count' : ℕ} {vectors : List ℤ}
    → PointInC n d vectors id start count number start' count'
    → AnswersNumber number (point_refusal n d (length vectors) id) ((start' ≡ start) × (count' ≡ count))
point_in_c_refuses h =
    record { number_is = h.answers; unchanged = λ z. (h.start-holds ∙ after_old z _ _, h.count-holds ∙ after_old z _ _) }

pub search_in_c_refuses : {a : Ask} {ids distances trail ids' distances' trail' : List ℕ} {found seen walked number found' seen' walked' : ℕ}
    → SearchInC a ids distances trail found seen walked number ids' distances' trail' found' seen' walked'
    → AnswersNumber number (refusal_of a ids distances trail) ((ids' ≡ ids) × (distances' ≡ distances) × (trail' ≡ trail) × (found' ≡ found) × (seen' ≡ seen) × (walked' ≡ walked))
unfolding search_answer ids_after distances_after trail_after
search_in_c_refuses h =
    record {
      number_is = h.answers ∙ number_of_lem _ _;
      unchanged = λ z. (
        h.ids_hold ∙ after_old z _ _,
        h.distances_hold ∙ after_old z _ _,
        h.trail-holds ∙ after_old z _ _,
        h.found-holds ∙ cell_old _ z _ _ _,
        h.seen-holds ∙ cell_old _ z _ _ _,
        h.walked-holds ∙ cell_old _ z _ _ _,
      );
    }

module _ {n d threshold : ℕ} {vectors query : List ℤ} {table : List ℕ} where
  pub step_in_c_refuses : {w : Walk} {moved number current' moves' moved' : ℕ}
      → StepInC n d vectors table query threshold w moved number current' moves' moved'
      → AnswersNumber number (step_refused n d vectors table query threshold w) ((current' ≡ w.current) × (moves' ≡ w.moves) × (moved' ≡ moved))
  unfolding step_answer record_after
  step_in_c_refuses h =
      record {
        number_is = h.answers ∙ number_of_lem _ _;
        unchanged = λ z. (
          h.current-holds ∙ ap (λ (w : Walk). w.current) (after_old z _ _),
          h.moves_hold ∙ ap (λ (w : Walk). w.moves) (after_old z _ _),
          h.moved_holds ∙ cell_old _ z _ _ _,
        );
      }

  pub walk_in_c_refuses : {start last distance moves number last' distance' moves' : ℕ}
      → WalkInC n d vectors table query threshold start last distance moves number last' distance' moves'
      → AnswersNumber number (walk_refusal n d (length vectors) (length table) (length query) start threshold) ((last' ≡ last) × (distance' ≡ distance) × (moves' ≡ moves))
  unfolding walk_answer
  walk_in_c_refuses h =
      record {
        number_is = h.answers ∙ number_of_lem _ _;
        unchanged = λ z. (h.last-holds ∙ cell_old _ z _ _ _, h.distance-holds ∙ cell_old _ z _ _ _, h.moves_hold ∙ cell_old _ z _ _ _);
      }

pub write_in_c_refuses : {k : Contents} {output output' : List ℕ} {written number written' : ℕ}
    → WriteInC k output written number output' written'
    → AnswersNumber number (write_refused k output) ((output' ≡ output) × (written' ≡ written))
unfolding write_answer output_after
write_in_c_refuses h =
    record { number_is = h.answers ∙ number_of_lem _ _; unchanged = λ z. (h.output_holds ∙ after_old z _ _, h.written_holds ∙ cell_old _ z _ _ _) }

pub header_in_c_refuses : {ys : List ℕ} {n d c asks number n' d' c' asks' : ℕ}
    → HeaderInC ys n d c asks number n' d' c' asks'
    → AnswersNumber number (sheet_refusal ys) ((n' ≡ n) × (d' ≡ d) × (c' ≡ c) × (asks' ≡ asks))
unfolding header_answer
header_in_c_refuses h =
    record {
      number_is = h.answers ∙ number_of_lem _ _;
      unchanged = λ z. (
        h.n-holds ∙ cell_old _ z _ _ _,
        h.d-holds ∙ cell_old _ z _ _ _,
        h.c-holds ∙ cell_old _ z _ _ _,
        h.asks_hold ∙ cell_old _ z _ _ _,
      );
    }

pub ask_in_c_refuses : {ys : List ℕ} {i start width k threshold number start' width' k' threshold' : ℕ} {query query' : List ℤ}
    → AskInC ys i query start width k threshold number query' start' width' k' threshold'
    → AnswersNumber number (one_ask_refusal ys i (length query)) ((query' ≡ query) × (start' ≡ start) × (width' ≡ width) × (k' ≡ k) × (threshold' ≡ threshold))
unfolding ask_answer query_after
ask_in_c_refuses h =
    record {
      number_is = h.answers ∙ number_of_lem _ _;
      unchanged = λ z. (
        h.query-holds ∙ after_old z _ _,
        h.start-holds ∙ cell_old _ z _ _ _,
        h.width-holds ∙ cell_old _ z _ _ _,
        h.k-holds ∙ cell_old _ z _ _ _,
        h.threshold-holds ∙ cell_old _ z _ _ _,
      );
    }
