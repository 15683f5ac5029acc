-- What the marks, the line and a row of the table stand for while a search explores.
use Rattle.std.specs.Prelude.{ℕ, ◌+◌, ◌*◌, ◌%◌, ◌≤◌, ◌<◌, ◌≡◌, Bool, true, false, cond, not, ◌&&◌, List, ◌++◌, map, ltb, leb, length, get_or, set, drop}
use Rattle.rules.specs.Points.{away}
use Rattle.rules.specs.Order.{keyed, count, firsts}
use Rattle.rules.specs.Labels.{edge_in}
use Rattle.rules.specs.Search.{State, search}
use Rattle.space.specs.declared.question.Asked.{Asked}
use Rattle.search.specs.declared.see.Mark.{Mark}
use Rattle.search.specs.declared.see.Mark.TheVariants.{Unseen, Waiting, Walked}
use Rattle.search.specs.Line.{waits, sees}

-- the order from the query
abbrev pub key_of : Asked → ℕ → ℕ
key_of a = keyed (away a.points.set.d a.points.set.vectors.now a.query.now)

-- the line has the keys of the seen ids in order, and no id before the place `from` waits
pub record Lined (n : ℕ) (key : ℕ → ℕ) (marks : List Mark) (line : List ℕ) (from : ℕ) : Type 0 where
  pub marks_size : length marks ≡ 128
  pub keys : line ≡ map key (firsts key n n (sees marks))
  pub from_in : from ≤ length line
  pub passed : (i : ℕ) → i < from → waits marks (get_or line i 0 % 128) ≡ false

-- the mark of an id after the edges of a row were followed
abbrev pub marked_at : List ℕ → ℕ → List Mark → ℕ → Mark
marked_at row m old y = cond (not (sees old y) && leb (get_or row y 0) m) Waiting (get_or old y Unseen)

-- the marks after the edges of a row to the ids below n were followed
pub record Marked (n : ℕ) (row : List ℕ) (m : ℕ) (old new : List Mark) : Type 0 where
  pub size : length new ≡ length old
  pub each : (y : ℕ) → y < n → get_or new y Unseen ≡ marked_at row m old y

-- x went on the trail, and the edges of its row of the table were followed; what waits first stands at the place `from`
pub record Visited (n : ℕ) (table : List ℕ) (m x : ℕ) (marks marks' : List Mark) (line' : List ℕ) (from : ℕ) : Type 0 where
  pub row : List ℕ
  pub cells : (y : ℕ) → y < n → get_or row y 0 ≡ get_or table (x * n + y) 0
  pub marked : Marked n row m (set marks x Walked) marks'
  pub waits_there : from < length line' → waits marks' (get_or line' from 0 % 128) ≡ true

-- a point waits at the place `from`, and fewer than `width` come before it
abbrev pub goes_on : ℕ → ℕ → ℕ → Bool
goes_on seen from width = ltb from seen && ltb from width

-- each id that is seen waits
pub record IsFresh (marks : List Mark) : Type 0 where
  pub waiting : (y : ℕ) → waits marks y ≡ sees marks y

-- the search that the marks at entry ask for
abbrev pub sought_by : ℕ → (ℕ → ℕ) → List ℕ → ℕ → ℕ → List Mark → State
sought_by n key table m width marks = search n key (edge_in table n m) width (sees marks)

-- what an exploration hands back: the count of the trail, the trail in front of what its buffer held, and the keys of the seen ids in order
pub record Explored (n : ℕ) (key : ℕ → ℕ) (table : List ℕ) (m width : ℕ) (marks : List Mark) (trail line' trail' : List ℕ) (walked : ℕ) : Type 0 where
  pub walked-is : walked ≡ length (sought_by n key table m width marks).trail
  pub trail_is : trail' ≡ (sought_by n key table m width marks).trail ++ drop walked trail
  pub seen-is : length line' ≡ count n (sought_by n key table m width marks).seen
  pub line_is : line' ≡ map key (firsts key n n (sought_by n key table m width marks).seen)
