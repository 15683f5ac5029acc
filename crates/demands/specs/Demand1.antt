-- The minutes, demand 1: "Each public entry takes all lent input as it comes. Bad input gets a refusal number from document 01 in the order given there,
-- no lent cell is changed, and no check is left to the caller. Every call ends."
-- No entry has a `requires`, and that every call ends is part of what the checker proves of each function. The rest is said here: an entry refuses exactly
-- if its order (`rules`, Refusals) gives a number, with that number, and then every lent cell is as it was.
use Rattle.std.specs.Prelude.{ℕ, ◌≡◌, ◌≢◌, Result, Err}
use Rattle.space.specs.declared.refusal.Refusal.{Refusal}
use Rattle.space.specs.Told.{number}

-- an entry that answers its refusal number itself, 0 for none, where its order gives `given`
pub record AnswersNumber (number given : ℕ) (Unchanged : Type 0) : Type 0 where
  pub number_is : number ≡ given
  pub unchanged : given ≢ 0 → Unchanged

-- an entry whose answer is a refusal or what it gives, where its order gives `given`
pub record Refuses {A : Type 0} (answer : Result A Refusal) (given : ℕ) (Unchanged : Type 0) : Type 0 where
  pub refused : given ≢ 0 → (r : Refusal) × (answer ≡ Err r) × (number r ≡ given)
  pub only_then : (r : Refusal) → answer ≡ Err r → (given ≢ 0) × (number r ≡ given)
  pub unchanged : given ≢ 0 → Unchanged
