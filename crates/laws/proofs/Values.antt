-- Values of c bits each, in two's complement: reading what was written, writing what was read, and what fits. Assumes nothing.
use mathlib.Core.Path.{◌≡◌, refl, sym, ap, ap₂, ◌∙◌}
use mathlib.Core.Bool.{Bool, true, false}
use mathlib.Core.List.{List, [], ◌∷◌, ◌++◌, append_assoc}
use mathlib.Core.Logic.{⊎_elim}
use Prim.Native.Nat.{ℕ, zero, suc, ◌+◌, ◌-◌, ◌*◌, ◌^◌, ◌≤◌, ◌<◌}
use native.Mathlib.Omega.{arith}
use lib.ListN.{length, take, drop, get_or, length-append, length-drop}
use lib.Seq.{take_at, drop_at, length-take-le, take-add}
use lib.Arith.{comp_comp}
use lib.Dec.{ltb}
use borrow.Author.Tests.{lt-ltb, le-ltb, ltb-true}
use lib.IntN.{ℤ, pos, negsuc}
use Rattle.rules.specs.Bits.{bits, number, fits, all_fit, twos, signed_by, signed, value_bits, values}
use Rattle.laws.proofs.Tests.{and_l, and_r, and_i, le_or_lt}
use Rattle.laws.proofs.Bits.{length-bits, number-bits_lt, bits_of_number, taken_small}

-- ---- two's complement

pub half : (c : ℕ) → 1 ≤ c → 2 ^ c ≡ 2 * 2 ^ (c - 1)
half zero h = omega arith
half (suc c) h = let e : suc c - 1 ≡ c = omega arith in rw e (omega arith)

pub twos_lt : (c : ℕ) (z : ℤ) → 1 ≤ c → fits c z ≡ true → twos c z < 2 ^ c
unfolding twos fits
twos_lt c (pos n) h f = omega (arith, half c h, ltb-true n (2 ^ (c - 1)) f)
twos_lt c (negsuc n) h f = omega (arith, half c h, ltb-true n (2 ^ (c - 1)) f)

pub signed-twos : (c : ℕ) (z : ℤ) → 1 ≤ c → fits c z ≡ true → signed c (twos c z) ≡ z
unfolding twos fits signed signed_by
signed-twos c (pos n) h f = rw f
signed-twos c (negsuc n) h f =
    let l : n < 2 ^ (c - 1) = ltb-true n (2 ^ (c - 1)) f in
    let g : 2 ^ (c - 1) ≤ 2 ^ c - suc n = omega (arith, half c h) in
    let m : n < 2 ^ c = omega (arith, half c h) in
    rw (le-ltb _ _ g) (ap negsuc (comp_comp m))

pub twos-signed : (c u : ℕ) → u < 2 ^ c → twos c (signed c u) ≡ u
unfolding twos signed signed_by
twos-signed c u h = go (ltb u (2 ^ (c - 1)))
  where
    go : (b : Bool) → twos c (signed_by b c u) ≡ u
    go true = refl
    go false = comp_comp h

pub signed-fits : (c u : ℕ) → 1 ≤ c → u < 2 ^ c → fits c (signed c u) ≡ true
unfolding signed fits signed_by
signed-fits c u h l =
    ⊎_elim
    (λ (t : 2 ^ (c - 1) ≤ u). rw (le-ltb _ _ t) (lt-ltb (2 ^ c - suc u) (2 ^ (c - 1)) (omega (arith, half c h))))
    (λ (t : u < 2 ^ (c - 1)). rw (lt-ltb _ _ t) (lt-ltb _ _ t))
    (le_or_lt (2 ^ (c - 1)) u)

-- ---- values of c bits each

pub length-value_bits : (c : ℕ) (zs : List ℤ) → length (value_bits c zs) ≡ length zs * c
unfolding value_bits
length-value_bits c [] = omega arith
length-value_bits c (z ∷ zs) = rw (length-append, length-bits, length-value_bits c zs) (omega arith)

pub length-values : (c m : ℕ) (bs : List Bool) → length (values c m bs) ≡ m
unfolding values
length-values c zero bs = refl
length-values c (suc m) bs = ap suc (length-values c m (drop c bs))

pub value_bits-cons : (c : ℕ) (z : ℤ) (zs : List ℤ) → value_bits c (z ∷ zs) ≡ bits c (twos c z) ++ value_bits c zs
unfolding value_bits
value_bits-cons c z zs = refl

-- one value, at the front
pub values-cons : (c m : ℕ) (u rest : List Bool) → length u ≡ c → values c (suc m) (u ++ rest) ≡ signed c (number u) ∷ values c m rest
unfolding values
values-cons c m u rest e =
    ap₂ (λ (a b : List Bool). signed c (number a) ∷ values c m b) (take_at u rest c e) (drop_at u rest c e)

module _ (c : ℕ) (c-0 : 1 ≤ c) where
  -- what was written is read back, whatever follows
  pub values-back : (zs : List ℤ) (rest : List Bool) → all_fit c zs ≡ true → values c (length zs) (value_bits c zs ++ rest) ≡ zs
  unfolding values all_fit
  values-back [] rest f = refl
  values-back (z ∷ zs) rest f =
      let f₀ = and_l (fits c z) (all_fit c zs) f in
      ap (values c (suc (length zs))) (ap (λ (l : List Bool). l ++ rest) (value_bits-cons c z zs) ∙ append_assoc (bits c (twos c z)) (value_bits c zs) rest)
      ∙ values-cons c (length zs) (bits c (twos c z)) (value_bits c zs ++ rest) (length-bits c (twos c z))
      ∙ ap₂ (λ (a : ℤ) (r : List ℤ). a ∷ r)
      (ap (signed c) (number-bits_lt c (twos c z) (twos_lt c z c-0 f₀)) ∙ signed-twos c z c-0 f₀)
      (values-back zs rest (and_r (fits c z) (all_fit c zs) f))

  -- what was read is written again
  pub value_bits-back : (m : ℕ) (bs : List Bool) → m * c ≤ length bs → value_bits c (values c m bs) ≡ take (m * c) bs
  unfolding value_bits values
  value_bits-back zero bs h = let e : 0 * c ≡ 0 = omega arith in rw e
  value_bits-back (suc m) bs h =
      let e : suc m * c ≡ c + m * c = omega arith in
      let l : length (take c bs) ≡ c = length-take-le c bs (omega arith) in
      let r : m * c ≤ length (drop c bs) = rw length-drop (omega arith) in
      ap₂ (λ (a b : List Bool). a ++ b)
      (ap (bits c) (twos-signed c (number (take c bs)) (taken_small c bs)) ∙ bits_of_number c (take c bs) l)
      (value_bits-back m (drop c bs) r)
      ∙ sym (take-add c (m * c) bs) ∙ ap (λ (k : ℕ). take k bs) (sym e)

  pub values_fit : (m : ℕ) (bs : List Bool) → all_fit c (values c m bs) ≡ true
  unfolding all_fit values
  values_fit zero bs = refl
  values_fit (suc m) bs =
      let u = number (take c bs) in
      and_i (fits c (signed c u)) (all_fit c (values c m (drop c bs))) (signed-fits c u c-0 (taken_small c bs)) (values_fit m (drop c bs))

-- ---- values that fit, in parts

pub fit_take : (c d : ℕ) (zs : List ℤ) → all_fit c zs ≡ true → all_fit c (take d zs) ≡ true
unfolding all_fit
fit_take c zero zs f = refl
fit_take c (suc d) [] f = refl
fit_take c (suc d) (z ∷ zs) f =
    and_i (fits c z) (all_fit c (take d zs)) (and_l (fits c z) (all_fit c zs) f) (fit_take c d zs (and_r (fits c z) (all_fit c zs) f))

pub fit_drop : (c d : ℕ) (zs : List ℤ) → all_fit c zs ≡ true → all_fit c (drop d zs) ≡ true
unfolding all_fit
fit_drop c zero zs f = f
fit_drop c (suc d) [] f = f
fit_drop c (suc d) (z ∷ zs) f = fit_drop c d zs (and_r (fits c z) (all_fit c zs) f)

pub fit_append : (c : ℕ) (xs ys : List ℤ) → all_fit c xs ≡ true → all_fit c ys ≡ true → all_fit c (xs ++ ys) ≡ true
unfolding all_fit
fit_append c [] ys f g = g
fit_append c (x ∷ xs) ys f g =
    and_i (fits c x) (all_fit c (xs ++ ys)) (and_l (fits c x) (all_fit c xs) f) (fit_append c xs ys (and_r (fits c x) (all_fit c xs) f) g)

pub fit_at : (c : ℕ) (zs : List ℤ) (i : ℕ) → all_fit c zs ≡ true → i < length zs → fits c (get_or zs i (pos 0)) ≡ true
unfolding all_fit
fit_at c [] i f h = absurd (omega arith)
fit_at c (z ∷ zs) zero f h = and_l (fits c z) (all_fit c zs) f
fit_at c (z ∷ zs) (suc i) f h = fit_at c zs i (and_r (fits c z) (all_fit c zs) f) (omega arith)
