-- Lines written one after the other on a page, and what is known of a sheet that is read.
use Rattle.std.specs.Prelude.{ℕ, ◌+◌, ◌≤◌, ◌≡◌, List, ℤ, length, Result}
use Rattle.rules.specs.Sheet.{points, coords, vectors_of}
use Rattle.rules.specs.Refusals.{sheet_refusal}
use Rattle.lines.specs.declared.TooShort.{TooShort}
use Rattle.lines.specs.Placing.{ending, put}

-- the bytes l were to go on the page from `at` on: whether they ended on it, and what is there where they did
pub record Paged (at : ℕ) (l old new : List ℕ) (r : Result ℕ TooShort) : Type 0 where
  pub answers : r ≡ ending at (length l) (length old)
  pub holds : at + length l ≤ length old → new ≡ put at l old
  pub size : length new ≡ length old

-- a sheet that is not refused, with its n, d and vectors
pub record SheetGiven (ys : List ℕ) (n d : ℕ) (vectors : List ℤ) : Type 0 where
  pub readable : sheet_refusal ys ≡ 0
  pub n-is : n ≡ points ys
  pub d-is : d ≡ coords ys
  pub vectors_are : vectors ≡ vectors_of ys
