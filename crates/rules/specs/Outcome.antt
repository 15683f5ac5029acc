-- Document 01, "Refusal numbers": "Apart from a point's empty part, a refusal returns only its number. It changes no lent cell or record."
-- "Search": "Cells past found, or past walked in the trail, keep what they held."
-- A refusal number of 0 stands for none.
use Rattle.std.specs.Prelude.{ℕ, zero, suc, Bool, cond, List, [], ◌∷◌, ◌++◌, length, drop}

-- what an entry answers: the number of a refusal, or what it gives
pub data Outcome (A : Type 0) : Type 0 where
  refused : ℕ → Outcome A
  gives : A → Outcome A

module _ {A : Type 0} where
  -- the answer where the refusal number is r and what is given otherwise is a
  unfoldable pub outcome : ℕ → A → Outcome A
  outcome zero a = gives a
  outcome (suc r) a = refused (suc r)

  -- what a lent cell, buffer or record holds afterwards, where it held `old` and would hold `new` if nothing is refused
  unfoldable pub after : ℕ → A → A → A
  after zero old new = new
  after (suc r) old new = old

  -- a buffer whose first cells are those of l, and whose others are as they were
  unfoldable pub over : List A → List A → List A
  over l old = l ++ drop (length l) old

-- the first number of a list whose test holds, or 0 where none does: an entry's refusals in its order
abbrev pub first_of : List (ℕ × Bool) → ℕ
first_of [] = 0
first_of (r ∷ rs) = cond r.1 r.0 (first_of rs)

-- a refusal, or where there is none what comes next
unfoldable pub or_else : ℕ → ℕ → ℕ
or_else zero next = next
or_else (suc r) next = suc r
