-- An answer of the code in document 01's terms: the number of a refusal, or what is given.
use Rattle.std.specs.Prelude.{ℕ, Result, Ok, Err}
use Rattle.rules.specs.Outcome.{Outcome, refused, gives}
use Rattle.space.specs.declared.refusal.Refusal.{Refusal}
use Rattle.space.specs.declared.refusal.Refusal.TheVariants.{Points, Coordinates, Vectors, Table, Query, Id, Width, Count, Threshold, Room, ValueWidth, Asks, Misfit, Output, Short, Long, AskNumber, Moves}

-- the number of document 01's table
abbrev pub number : Refusal → ℕ
number Points = 1
number Coordinates = 2
number Vectors = 3
number Table = 4
number Query = 5
number Id = 6
number Width = 7
number Count = 8
number Threshold = 9
number Room = 10
number ValueWidth = 11
number Asks = 12
number Misfit = 13
number Output = 14
number Short = 15
number Long = 16
number AskNumber = 17
number Moves = 18

module _ {A : Type 0} where
  -- the refusal's number, 0 for none
  abbrev pub number_in : Result A Refusal → ℕ
  number_in (Ok a) = 0
  number_in (Err r) = number r

  -- the number, or what is given, which f says in the rules' terms
  abbrev pub told : {B : Type 0} → (A → B) → Result A Refusal → Outcome B
  told f (Ok a) = gives (f a)
  told f (Err r) = refused (number r)
