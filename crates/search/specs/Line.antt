-- What a mark says of an id, and what the functions on the line do.
use Rattle.std.specs.Prelude.{ℕ, ◌+◌, ◌%◌, ◌≤◌, ◌<◌, ◌≡◌, Bool, true, false, List, ◌∷◌, ◌++◌, length, get_or, take, drop}
use Rattle.search.specs.declared.see.Mark.{Mark}
use Rattle.search.specs.declared.see.Mark.TheVariants.{Unseen, Waiting, Walked}

abbrev pub is_waiting : Mark → Bool
is_waiting Unseen = false
is_waiting Waiting = true
is_waiting Walked = false

abbrev pub is_seen : Mark → Bool
is_seen Unseen = false
is_seen Waiting = true
is_seen Walked = true

abbrev pub waits : List Mark → ℕ → Bool
waits marks id = is_waiting (get_or marks id Unseen)

abbrev pub sees : List Mark → ℕ → Bool
sees marks id = is_seen (get_or marks id Unseen)

-- r is the place of the key x among the first m numbers of a line: those from there on are larger, and the one before it is not
pub record Slot (line : List ℕ) (m x r : ℕ) : Type 0 where
  pub within : r ≤ m
  pub larger : (i : ℕ) → r ≤ i → i < m → x < get_or line i 0
  pub not-larger : (i : ℕ) → r ≡ i + 1 → get_or line i 0 ≤ x

-- the numbers from place r to place m were moved up by one
pub record Moved (old : List ℕ) (m r : ℕ) (new : List ℕ) : Type 0 where
  pub size : length new ≡ length old
  pub low : (i : ℕ) → i < r → get_or new i 0 ≡ get_or old i 0
  pub up : (i : ℕ) → r ≤ i → i < m → get_or new (i + 1) 0 ≡ get_or old i 0

pub record Shifted (old : List ℕ) (m x r : ℕ) (new : List ℕ) : Type 0 where
  pub slot : Slot old m x r
  pub moved : Moved old m r new

-- x was put in its place r
pub record Put (old : List ℕ) (m x r : ℕ) (new : List ℕ) : Type 0 where
  pub slot : Slot old m x r
  pub size : length new ≡ length old
  pub keys : take (m + 1) new ≡ take r (take m old) ++ (x ∷ drop r (take m old))

-- r is the first place from a on whose id waits, or m
pub record Opened (line : List ℕ) (marks : List Mark) (m a r : ℕ) : Type 0 where
  pub from : a ≤ r
  pub within : r ≤ m
  pub passed : (i : ℕ) → a ≤ i → i < r → waits marks (get_or line i 0 % 128) ≡ false
  pub open_there : r < m → waits marks (get_or line r 0 % 128) ≡ true
