-- The definition that turns a search's answer into document 01's terms loses nothing: answers that say the same are the same. Assumes nothing.
use mathlib.Core.Path.{◌≡◌}
use Rattle.std.specs.Prelude.{Result}
use Rattle.space.specs.declared.refusal.Refusal.{Refusal}
use Rattle.space.proofs.Told.{told-one}
use Rattle.search.specs.declared.Counts.{Counts}
use Rattle.search.specs.Answer.{counted, told}

counted-one : (c k : Counts) → counted c ≡ counted k → c ≡ k
counted-one c k q = λ i. record { found = (q i).found; seen = (q i).seen; walked = (q i).walked }

pub search-told : (a b : Result Counts Refusal) → told a ≡ told b → a ≡ b
search-told a b e = told-one counted counted-one a b e
