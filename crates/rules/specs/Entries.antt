-- Document 01, "What each stated result has to fix": "Every public function states its result for all input, refusals too, and every lent cell and record
-- afterwards." Here is what each entry answers, and what it leaves in each lent buffer and record: the rules over lent input, refusals first.
use Rattle.std.specs.Prelude.{ℕ, Bool, List, [], map, eqb, ℤ, length, get_or}
use Rattle.std.proofs.Math.Option.{Option}
use Rattle.rules.specs.Outcome.{Outcome, outcome, after, over}
use Rattle.rules.specs.Points.{coordinates, apart, away}
use Rattle.rules.specs.Order.{keyed, count}
use Rattle.rules.specs.Labels.{table_of, edge_in}
use Rattle.rules.specs.Search.{State, search, answer}
use Rattle.rules.specs.Walk.{Walk, Step, due, stepped, step_from, step_to, walk_from}
use Rattle.rules.specs.Sheet.{Contents, sheet, points, coords, width, ask_count, vectors_of, ask_numbers, ask_query}
use Rattle.rules.specs.Refusals.{point_refusal, build_refusal, search_refusal, walk_refusal, step_refusal, writer_refusal, sheet_refusal, vectors_refusal, one_ask_refusal}

-- ---- a point: its coordinates, or an empty part where it is refused

unfoldable pub point_of : ℕ → ℕ → List ℤ → ℕ → List ℤ
point_of n d vectors id = after (point_refusal n d (length vectors) id) [] (coordinates d vectors id)

-- ---- build: the lent table afterwards

unfoldable pub table_after : ℕ → ℕ → List ℤ → List ℕ → List ℕ
table_after n d vectors table = after (build_refusal n d (length vectors) (length table)) table (table_of (apart d vectors) n)

-- ---- search

pub record Counts : Type 0 where
  pub found : ℕ
  pub seen : ℕ
  pub walked : ℕ

-- what a search is asked: the set, the table, the query and four numbers
pub record Ask : Type 0 where
  pub n : ℕ
  pub d : ℕ
  pub vectors : List ℤ
  pub table : List ℕ
  pub query : List ℤ
  pub start : ℕ
  pub threshold : ℕ
  pub width : ℕ
  pub k : ℕ

abbrev pub ask : ℕ → ℕ → List ℤ → List ℕ → List ℤ → ℕ → ℕ → ℕ → ℕ → Ask
ask n d vectors table query start threshold width k =
    record { n = n; d = d; vectors = vectors; table = table; query = query; start = start; threshold = threshold; width = width; k = k }

-- D from the query, the order from the query and the edges of the threshold
unfoldable pub farness : Ask → ℕ → ℕ
farness a = away a.d a.vectors a.query

unfoldable pub order_of : Ask → ℕ → ℕ
order_of a = keyed (farness a)

unfoldable pub edges_of : Ask → ℕ → ℕ → Bool
edges_of a = edge_in a.table a.n a.threshold

-- the state at the stop, where at first only the start is seen
unfoldable pub searched : Ask → State
searched a = search a.n (order_of a) (edges_of a) a.width (eqb a.start)

-- the answer: ids and squared distances
unfoldable pub near_ids : Ask → List ℕ
near_ids a = answer a.n (order_of a) a.k (searched a)

unfoldable pub near_distances : Ask → List ℕ
near_distances a = map (farness a) (near_ids a)

unfoldable pub counts_of : Ask → Counts
counts_of a = record { found = length (near_ids a); seen = count a.n (searched a).seen; walked = length (searched a).trail }

-- the refusal, by the ask and the lengths of the three buffers
unfoldable pub asked_refusal : Ask → ℕ → ℕ → ℕ → ℕ
asked_refusal a ids distances trail =
    search_refusal a.n a.d (length a.vectors) (length a.table) (length a.query) a.start a.threshold a.width a.k ids distances trail

module _ (a : Ask) (ids distances trail : List ℕ) where
  unfoldable pub refusal_of : ℕ
  refusal_of = asked_refusal a (length ids) (length distances) (length trail)

  unfoldable pub search_answer : Outcome Counts
  search_answer = outcome refusal_of (counts_of a)

  unfoldable pub ids_after : List ℕ
  ids_after = after refusal_of ids (over (near_ids a) ids)

  unfoldable pub distances_after : List ℕ
  distances_after = after refusal_of distances (over (near_distances a) distances)

  unfoldable pub trail_after : List ℕ
  trail_after = after refusal_of trail (over (searched a).trail trail)

-- ---- the greedy walk

-- where the whole walk ends: the last id, its D and the moves
pub record End : Type 0 where
  pub last : ℕ
  pub distance : ℕ
  pub moves : ℕ

module _ (n d : ℕ) (vectors : List ℤ) (table : List ℕ) (query : List ℤ) (threshold : ℕ) where
  -- where a step from an id moves to
  unfoldable pub goes_to : ℕ → Option ℕ
  goes_to current = step_to n (away d vectors query) (edge_in table n threshold) current

  unfoldable pub step_refused : Walk → ℕ
  step_refused w =
      step_refusal n d (length vectors) (length table) (length query) w.current threshold (due (goes_to w.current)) w.moves

  unfoldable pub step_answer : Walk → Outcome Step
  step_answer w = outcome (step_refused w) (stepped (goes_to w.current))

  unfoldable pub record_after : Walk → Walk
  record_after w = after (step_refused w) w (step_from w (goes_to w.current))

  -- the walk from a start to its end
  unfoldable pub ending : ℕ → Walk
  ending start = walk_from n (away d vectors query) (edge_in table n threshold) start

  unfoldable pub end_of : ℕ → End
  end_of start = record { last = (ending start).current; distance = away d vectors query (ending start).current; moves = (ending start).moves }

  unfoldable pub walk_answer : ℕ → Outcome End
  walk_answer start =
      outcome (walk_refusal n d (length vectors) (length table) (length query) start threshold) (end_of start)

-- ---- the sheet

-- the writer: the length, and the output afterwards
module _ (k : Contents) (output : List ℕ) where
  unfoldable pub write_refused : ℕ
  write_refused = writer_refusal k.n k.d k.c k.asks k.vectors k.numbers k.queries (length output)

  unfoldable pub write_answer : Outcome ℕ
  write_answer = outcome write_refused (length (sheet k))

  unfoldable pub output_after : List ℕ
  output_after = after write_refused output (over (sheet k) output)

-- reading n, d, c and the ask count
pub record Header : Type 0 where
  pub n : ℕ
  pub d : ℕ
  pub c : ℕ
  pub asks : ℕ

unfoldable pub header_answer : List ℕ → Outcome Header
header_answer ys = outcome (sheet_refusal ys) (record { n = points ys; d = coords ys; c = width ys; asks = ask_count ys })

-- reading the vectors into a lent buffer
unfoldable pub vectors_after : List ℕ → List ℤ → List ℤ
vectors_after ys buffer = after (vectors_refusal ys (length buffer)) buffer (vectors_of ys)

-- reading one ask's four numbers, and its query into a lent buffer
pub record Numbers : Type 0 where
  pub start : ℕ
  pub width : ℕ
  pub k : ℕ
  pub threshold : ℕ

unfoldable pub numbers_of : List ℕ → Numbers
numbers_of ns = record { start = get_or ns 0 0; width = get_or ns 1 0; k = get_or ns 2 0; threshold = get_or ns 3 0 }

unfoldable pub ask_answer : List ℕ → ℕ → List ℤ → Outcome Numbers
ask_answer ys i buffer = outcome (one_ask_refusal ys i (length buffer)) (numbers_of (ask_numbers ys i))

unfoldable pub query_after : List ℕ → ℕ → List ℤ → List ℤ
query_after ys i buffer = after (one_ask_refusal ys i (length buffer)) buffer (ask_query ys i)
