-- The seen ids in order, as a list that grows by one id at a time: how a search keeps them.
use Rattle.std.specs.Prelude.{ℕ, ◌<◌, ◌≤◌, Bool, true, false, ◌||◌, List, [], ◌∷◌, ltb, eqb, length, get_or}

-- the ids of a set, and x
unfoldable pub adding : ℕ → (ℕ → Bool) → ℕ → Bool
adding x p y = eqb x y || p y

-- x put in its place on a list that goes up in order
unfoldable pub insert : (ℕ → ℕ) → ℕ → List ℕ → List ℕ
insert key x [] = x ∷ []
insert key x (y ∷ l) = elim (ltb (key x) (key y)) [ true ↦ x ∷ y ∷ l | false ↦ y ∷ insert key x l ]

-- r is the place of the number x on a list of numbers: what stands from there on is larger, and what stands just before it is not
pub record Place (x : ℕ) (l : List ℕ) (r : ℕ) : Type 0 where
  pub within : r ≤ length l
  pub larger : (i : ℕ) → r ≤ i → i < length l → x < get_or l i 0
  pub not-larger : (i : ℕ) → i < r → get_or l i 0 ≤ x
