-- Document 01, "What is built": "“Order from q” means smaller D to q first, and at equal D the lower id."
-- The ids are 0 .. n - 1. A set of ids is a test, of which only the ids below n are looked at. The order is that of a number for each id, its key:
-- for document 01's order D × 128 + id. `laws` Keyed shows that this number says the same as the words.
use Rattle.std.specs.Prelude.{ℕ, zero, suc, ◌+◌, ◌*◌, ◌≤◌, ◌<◌, min, ◌≡◌, Bool, true, false, cond, not, ◌&&◌, ◌||◌, List, [], ◌∷◌, ltb, eqb, length, get_or}
use Rattle.std.proofs.Math.Option.{Option, none, some}

-- in the words of the paper: x comes before y
unfoldable pub earlier : (ℕ → ℕ) → ℕ → ℕ → Bool
earlier D x y = ltb (D x) (D y) || (eqb (D x) (D y) && ltb x y)

-- the same by one number, for ids below 128
unfoldable pub keyed : (ℕ → ℕ) → ℕ → ℕ
keyed D id = D id * 128 + id

-- ---- tests of ids

-- how many of the ids below n pass
unfoldable pub count : ℕ → (ℕ → Bool) → ℕ
count zero p = 0
count (suc n) p = cond (p n) 1 0 + count n p

-- whether one of the ids below n passes
unfoldable pub any : ℕ → (ℕ → Bool) → Bool
any zero p = false
any (suc n) p = p n || any n p

-- the ids that pass, but for x
unfoldable pub without : ℕ → (ℕ → Bool) → ℕ → Bool
without x p y = p y && not (eqb y x)

-- whether y is on a list
unfoldable pub on : List ℕ → ℕ → Bool
on [] y = false
on (x ∷ l) y = eqb x y || on l y

-- of the ids below n, those of p are also of q
abbrev pub Within : ℕ → (ℕ → Bool) → (ℕ → Bool) → Type 0
Within n p q = (y : ℕ) → y < n → p y ≡ true → q y ≡ true

-- different ids have different keys
abbrev pub Ordered : ℕ → (ℕ → ℕ) → Type 0
Ordered n key = (x y : ℕ) → x < n → y < n → key x ≡ key y → x ≡ y

-- ---- the first in order

module _ (key : ℕ → ℕ) where
  -- x where it passes and comes before what was found so far
  unfoldable pub pick : Bool → ℕ → Option ℕ → Option ℕ
  pick false x r = r
  pick true x none = some x
  pick true x (some y) = cond (ltb (key x) (key y)) (some x) (some y)

  -- the first in order of the ids below n that pass
  unfoldable pub first : ℕ → (ℕ → Bool) → Option ℕ
  first zero p = none
  first (suc n) p = pick (p n) n (first n p)

  -- the first k in order of the ids below n that pass, or all that pass if fewer
  unfoldable pub firsts : ℕ → ℕ → (ℕ → Bool) → List ℕ
  firsts n zero p = []
  firsts n (suc k) p = elim (first n p) [ none ↦ [] | some x ↦ x ∷ firsts n k (without x p) ]

  -- ---- the same, said of a list

  -- the list goes up in order
  abbrev pub Rising : List ℕ → Type 0
  Rising [] = Unit {0}
  Rising (x ∷ l) = ((y : ℕ) → on l y ≡ true → key x < key y) × Rising l

  -- l holds k of the ids below n that pass, or all of them if fewer, in order, and those that it leaves out are later
  pub record Nearest (n k : ℕ) (p : ℕ → Bool) (l : List ℕ) : Type 0 where
    pub many : length l ≡ min k (count n p)
    pub rising : Rising l
    pub each : (y : ℕ) → on l y ≡ true → (y < n) × (p y ≡ true)
    pub others : (y : ℕ) → y < n → p y ≡ true → on l y ≡ false → (z : ℕ) → on l z ≡ true → key z < key y

  -- l' has at least as many ids as l, and at each place of l the same id or an earlier one
  abbrev pub NoLater : List ℕ → List ℕ → Type 0
  NoLater l l' = (length l ≤ length l') × ((j : ℕ) → j < length l → key (get_or l' j 0) ≤ key (get_or l j 0))
