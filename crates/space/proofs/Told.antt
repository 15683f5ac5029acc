-- Answers of the code in document 01's terms lose nothing, and a refusal's number is never 0. Assumes nothing.
use Prim.Native.Nat.{ℕ}
use mathlib.Core.Path.{◌≡◌, refl, sym, ap, ◌∙◌}
use mathlib.Core.Logic.{◌≢◌}
use mathlib.Core.List.{List, [], ◌∷◌}
use native.Mathlib.Omega.{arith}
use lib.ListN.{get_or}
use Rattle.std.specs.Prelude.{Result, Ok, Err}
use Rattle.std.specs.Result.{IsErrAnd}
use Rattle.std.proofs.lemmas.Result.{err_from_is_err_and}
use Rattle.rules.specs.Outcome.{or_else}
use Rattle.laws.proofs.RefusalOrder.{stops}
use Rattle.space.specs.declared.refusal.Refusal.{Refusal}
use Rattle.space.specs.declared.refusal.Refusal.TheVariants.{Points, Coordinates, Vectors, Table, Query, Id, Width, Count, Threshold, Room, ValueWidth, Asks, Misfit, Output, Short, Long, AskNumber, Moves}
use Rattle.space.specs.Told.{number, number_in, told}

-- the refusals by their numbers; 0 is none's
abbrev all : List Refusal
all =
    Moves
    ∷ Points
    ∷ Coordinates
    ∷ Vectors
    ∷ Table
    ∷ Query
    ∷ Id
    ∷ Width
    ∷ Count
    ∷ Threshold
    ∷ Room
    ∷ ValueWidth
    ∷ Asks
    ∷ Misfit
    ∷ Output
    ∷ Short
    ∷ Long
    ∷ AskNumber
    ∷ Moves
    ∷ []

back : (r : Refusal) → get_or all (number r) Moves ≡ r
back Points = refl
back Coordinates = refl
back Vectors = refl
back Table = refl
back Query = refl
back Id = refl
back Width = refl
back Count = refl
back Threshold = refl
back Room = refl
back ValueWidth = refl
back Asks = refl
back Misfit = refl
back Output = refl
back Short = refl
back Long = refl
back AskNumber = refl
back Moves = refl

-- refusals of the same number are the same
pub number-one : (r s : Refusal) → number r ≡ number s → r ≡ s
number-one r s e = sym (back r) ∙ ap (λ x. get_or all x Moves) e ∙ back s

pub number-some : (r : Refusal) → number r ≢ 0
number-some Points e = omega arith
number-some Coordinates e = omega arith
number-some Vectors e = omega arith
number-some Table e = omega arith
number-some Query e = omega arith
number-some Id e = omega arith
number-some Width e = omega arith
number-some Count e = omega arith
number-some Threshold e = omega arith
number-some Room e = omega arith
number-some ValueWidth e = omega arith
number-some Asks e = omega arith
number-some Misfit e = omega arith
number-some Output e = omega arith
number-some Short e = omega arith
number-some Long e = omega arith
number-some AskNumber e = omega arith
number-some Moves e = omega arith

-- a refusal that another order begins with is that order's too
pub stopped : (r : Refusal) {s o : ℕ} (x : ℕ) → o ≡ or_else s x → number r ≡ s → number r ≡ o
stopped r x order e = stops x order e (number-some r)

-- the same where a `?` hands it on
pub exits : {A : Type 0} {s o : ℕ} (r : Result A Refusal) (e : Refusal) → IsErrAnd r (λ y. y ≡ e) → (x : ℕ) → o ≡ or_else s x → number e ≡ s → number_in r ≡ o
exits r e is x order same = let p = err_from_is_err_and r is in rw (p.1, p.2) (stopped e x order same)

-- answers that say the same are the same, where what is given loses nothing in the rules' terms
module _ {A B : Type 0} (f : A → B) (one : (a b : A) → f a ≡ f b → a ≡ b) where
  pub told-one : (r s : Result A Refusal) → told f r ≡ told f s → r ≡ s
  told-one (Ok a) (Ok b) e = let q : f a ≡ f b = cc in ap Ok (one a b q)
  told-one (Ok a) (Err s) e = cc
  told-one (Err r) (Ok b) e = cc
  told-one (Err r) (Err s) e = let q : number r ≡ number s = cc in ap Err (number-one r s q)
