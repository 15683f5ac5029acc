-- Lists of numbers, from the front. Assumes nothing.
use Rattle.std.proofs.Common.{◌≡◌, ℕ, ◌+◌, ◌<◌, ◌≤◌, ◌⊎◌, inl, inr, List, [], ◌∷◌, ◌++◌, length, get_or, drop, refl, sym, append_assoc, add-one, drop-cons}
use lib.ListN.{drop_of_length-le}
use Rattle.rules.specs.Lines.{part, parts, pairs}

pub parts_next : (ids : List ℕ) (i : ℕ) {id : ℕ} → i < length ids → id ≡ get_or ids i 0 → parts (drop i ids) ≡ part id ++ parts (drop (i + 1) ids)
unfolding parts
parts_next ids i l p = rw (p, add-one, drop-cons ids i 0 l)

pub parts-done : (ids : List ℕ) (i : ℕ) → length ids ≤ i → parts (drop i ids) ≡ []
unfolding parts
parts-done ids i l = rw (drop_of_length-le ids l)

pub pairs_next : {id d : ℕ} {ids ds ids' ds' : List ℕ} → ids ≡ id ∷ ids' → ds ≡ d ∷ ds' → pairs ids ds ≡ (part id ++ part d) ++ pairs ids' ds'
unfolding pairs
pairs_next {id} {d} {ids' = ids'} {ds' = ds'} e f = rw (e, f) (sym (append_assoc (part id) (part d) (pairs ids' ds')))

pub pairs-none : (ids ds : List ℕ) → (ids ≡ []) ⊎ (ds ≡ []) → pairs ids ds ≡ []
unfolding pairs
pairs-none [] ds h = refl
pairs-none (x ∷ ids) [] h = refl
pairs-none (x ∷ ids) (d ∷ ds) (inl e) = absurd cc
pairs-none (x ∷ ids) (d ∷ ds) (inr e) = absurd cc
