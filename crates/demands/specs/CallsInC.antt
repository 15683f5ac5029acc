-- What each C function promises of one call, as `Calls` says it of the entries: it answers the refusal's number, 0 for none, and gives its values in lent
-- cells. `magpiehinge_distance`, `magpiehinge_build` and `magpiehinge_vectors` promise what the entries promise.
use Rattle.std.specs.Prelude.{ℕ, ◌*◌, ◌≡◌, List, ℤ, length}
use Rattle.rules.specs.Outcome.{after}
use Rattle.rules.specs.Walk.{Walk}
use Rattle.rules.specs.Sheet.{Contents}
use Rattle.rules.specs.Refusals.{point_refusal}
use Rattle.rules.specs.Entries.{Ask, search_answer, ids_after, distances_after, trail_after, step_answer, record_after, walk_answer, write_answer, output_after, header_answer, ask_answer, query_after}
use Rattle.cabi.specs.Plain.{number_of, cell_after, moved_bit}

pub record PointInC (n d : ℕ) (vectors : List ℤ) (id start count number start' count' : ℕ) : Type 0 where
  pub answers : number ≡ point_refusal n d (length vectors) id
  pub start-holds : start' ≡ after (point_refusal n d (length vectors) id) start (id * d)
  pub count-holds : count' ≡ after (point_refusal n d (length vectors) id) count d

pub record SearchInC (a : Ask) (ids distances trail : List ℕ) (found seen walked number : ℕ) (ids' distances' trail' : List ℕ) (found' seen' walked' : ℕ) : Type 0 where
  pub answers : number ≡ number_of (search_answer a ids distances trail)
  pub ids_hold : ids' ≡ ids_after a ids distances trail
  pub distances_hold : distances' ≡ distances_after a ids distances trail
  pub trail-holds : trail' ≡ trail_after a ids distances trail
  pub found-holds : found' ≡ cell_after (search_answer a ids distances trail) (λ c. c.found) found
  pub seen-holds : seen' ≡ cell_after (search_answer a ids distances trail) (λ c. c.seen) seen
  pub walked-holds : walked' ≡ cell_after (search_answer a ids distances trail) (λ c. c.walked) walked

pub record StepInC (n d : ℕ) (vectors : List ℤ) (table : List ℕ) (query : List ℤ) (threshold : ℕ) (w : Walk) (moved number current' moves' moved' : ℕ) : Type 0 where
  pub answers : number ≡ number_of (step_answer n d vectors table query threshold w)
  pub current-holds : current' ≡ (record_after n d vectors table query threshold w).current
  pub moves_hold : moves' ≡ (record_after n d vectors table query threshold w).moves
  pub moved_holds : moved' ≡ cell_after (step_answer n d vectors table query threshold w) moved_bit moved

pub record WalkInC (n d : ℕ) (vectors : List ℤ) (table : List ℕ) (query : List ℤ) (threshold start last distance moves number last' distance' moves' : ℕ) : Type 0 where
  pub answers : number ≡ number_of (walk_answer n d vectors table query threshold start)
  pub last-holds : last' ≡ cell_after (walk_answer n d vectors table query threshold start) (λ e. e.last) last
  pub distance-holds : distance' ≡ cell_after (walk_answer n d vectors table query threshold start) (λ e. e.distance) distance
  pub moves_hold : moves' ≡ cell_after (walk_answer n d vectors table query threshold start) (λ e. e.moves) moves

pub record WriteInC (k : Contents) (output : List ℕ) (written number : ℕ) (output' : List ℕ) (written' : ℕ) : Type 0 where
  pub answers : number ≡ number_of (write_answer k output)
  pub output_holds : output' ≡ output_after k output
  pub written_holds : written' ≡ cell_after (write_answer k output) (λ l. l) written

pub record HeaderInC (ys : List ℕ) (n d c asks number n' d' c' asks' : ℕ) : Type 0 where
  pub answers : number ≡ number_of (header_answer ys)
  pub n-holds : n' ≡ cell_after (header_answer ys) (λ h. h.n) n
  pub d-holds : d' ≡ cell_after (header_answer ys) (λ h. h.d) d
  pub c-holds : c' ≡ cell_after (header_answer ys) (λ h. h.c) c
  pub asks_hold : asks' ≡ cell_after (header_answer ys) (λ h. h.asks) asks

pub record AskInC (ys : List ℕ) (i : ℕ) (query : List ℤ) (start width k threshold number : ℕ) (query' : List ℤ) (start' width' k' threshold' : ℕ) : Type 0 where
  pub answers : number ≡ number_of (ask_answer ys i query)
  pub query-holds : query' ≡ query_after ys i query
  pub start-holds : start' ≡ cell_after (ask_answer ys i query) (λ a. a.start) start
  pub width-holds : width' ≡ cell_after (ask_answer ys i query) (λ a. a.width) width
  pub k-holds : k' ≡ cell_after (ask_answer ys i query) (λ a. a.k) k
  pub threshold-holds : threshold' ≡ cell_after (ask_answer ys i query) (λ a. a.threshold) threshold
