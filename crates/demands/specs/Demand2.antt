-- The minutes, demand 2: "Labels, searches, walks and sheets are exactly those of the rules in document 01, taken from source documents 001 and 004.
-- Reading a written sheet gives back its contents, and writing what was read gives back its bytes."
-- That they are exactly those of the rules is what each call says (`Calls`): an equation with the rule's definition. Said once more here, where nothing is
-- refused, without the refusals. What it means that the readers give back contents is said in `sheet`, AsRead.
use Rattle.std.specs.Prelude.{ℕ, ◌<◌, ◌+◌, ◌*◌, ◌≡◌, ◌≢◌, Bool, true, false, List, ℤ, length, get_or, take}
use Rattle.rules.specs.Points.{apart, away}
use Rattle.rules.specs.Order.{count}
use Rattle.rules.specs.Entries.{Ask, searched, near_ids, near_distances, ending}
use Rattle.laws.specs.Labelled.{LabelBy}
use Rattle.search.specs.declared.Counts.{Counts}
use Rattle.walk.specs.declared.answers.End.{End}

-- The labels of a built table: 65,535 on the diagonal, 0 for a direct edge, else the label of the rule (`laws`, Labelled). `direct` is whatever solves the
-- rule for direct edges; there is one solution (`laws`, `direct_one`).
pub record Labelled (n d : ℕ) (vectors : List ℤ) (table : List ℕ) (direct : ℕ → ℕ → Bool) : Type 0 where
  pub whole : length table ≡ n * n
  pub diagonal : (u : ℕ) → u < n → get_or table (u * n + u) 0 ≡ 65535
  pub direct_0 : (u v : ℕ) → u < n → v < n → u ≢ v → direct u v ≡ true → get_or table (u * n + v) 0 ≡ 0
  pub labels : (u v : ℕ) → u < n → v < n → u ≢ v → direct u v ≡ false
      → (w : ℕ) × LabelBy (apart d vectors) n direct u v w (get_or table (u * n + v) 0)

-- what a search gives: its counts, and the beginnings of its three buffers
pub record Searches (a : Ask) (c : Counts) (ids distances trail : List ℕ) : Type 0 where
  pub found : c.found ≡ length (near_ids a)
  pub seen : c.seen ≡ count a.n (searched a).seen
  pub walked : c.walked ≡ length (searched a).trail
  pub ids_are : take c.found ids ≡ near_ids a
  pub distances_are : take c.found distances ≡ near_distances a
  pub trail_is : take c.walked trail ≡ (searched a).trail

-- what a whole walk gives: the last id, its D and the moves
pub record Walks (n d : ℕ) (vectors : List ℤ) (table : List ℕ) (query : List ℤ) (threshold start : ℕ) (e : End) : Type 0 where
  pub last-is : e.last ≡ (ending n d vectors table query threshold start).current
  pub distance_is : e.distance ≡ away d vectors query e.last
  pub moves_are : e.moves ≡ (ending n d vectors table query threshold start).moves
