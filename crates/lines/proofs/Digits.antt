-- The decimal digits of a number, one after the other from the last. Assumes nothing.
use Prim.Native.Nat.{ℕ, zero, suc, ◌+◌, ◌/◌, ◌%◌, ◌^◌, ◌≤◌, ◌<◌}
use native.Mathlib.Nat.{div-lt_iff_lt-mul, pow-suc}
use native.Mathlib.Omega.{arith}
use mathlib.Core.Path.{◌≡◌, refl, sym, ap, ◌∙◌}
use mathlib.Core.Logic.{⊎_elim}
use mathlib.Core.List.{List, [], ◌∷◌, ◌++◌}
use lib.ListN.{length, length-append}
use borrow.Author.Tests.{lt-ltb, le-ltb}
use Rattle.rules.specs.Lines.{decimal_in, decimal, part}
use Rattle.std.specs.Fmt.{decimal as std_decimal}
use Rattle.std.proofs.lemmas.Fmt.{decimal_by_steps}
use Rattle.laws.proofs.Tests.{le_or_lt}

in_small : (f x : ℕ) → x < 10 → decimal_in (suc f) x ≡ (48 + x) ∷ []
unfolding decimal_in
in_small f x l = rw (decimal_in, lt-ltb x 10 l)

in_more : (f x : ℕ) → 10 ≤ x → decimal_in (suc f) x ≡ decimal_in f (x / 10) ++ ((48 + x % 10) ∷ [])
unfolding decimal_in
in_more f x l = rw (decimal_in, le-ltb x 10 l)

-- fuel that is enough is as good as any
same : (f g x : ℕ) → x ≤ f → x ≤ g → decimal_in f x ≡ decimal_in g x
unfolding decimal_in
same zero zero x l m = refl
same zero (suc g) x l m = let e : x ≡ 0 = omega arith in rw e
same (suc f) zero x l m = let e : x ≡ 0 = omega arith in rw e
same (suc f) (suc g) x l m =
    ⊎_elim
    (λ (h : 10 ≤ x).
    let front = same f g (x / 10) (omega arith) (omega arith) in
    in_more f x h ∙ ap (λ (t : List ℕ). t ++ ((48 + x % 10) ∷ [])) front ∙ sym (in_more g x h))
    (λ (h : x < 10). in_small f x h ∙ sym (in_small g x h))
    (le_or_lt 10 x)

pub decimal-small : (x : ℕ) → x < 10 → decimal x ≡ (48 + x % 10) ∷ []
unfolding decimal decimal_in
decimal-small zero l = refl
decimal-small (suc y) l = in_small y (suc y) l ∙ (let e : 48 + suc y ≡ 48 + suc y % 10 = omega arith in rw e)

pub decimal_more : (x : ℕ) → 10 ≤ x → decimal x ≡ decimal (x / 10) ++ ((48 + x % 10) ∷ [])
unfolding decimal
decimal_more zero l = absurd (omega arith)
decimal_more (suc y) l =
    in_more y (suc y) l ∙ ap (λ (t : List ℕ). t ++ ((48 + suc y % 10) ∷ [])) (same y (suc y / 10) (suc y / 10) (omega arith) (omega arith))

pub length-small : (x : ℕ) → x < 10 → length (decimal x) ≡ 1
length-small x l = ap length (decimal-small x l)

pub length_more : (x : ℕ) → 10 ≤ x → length (decimal x) ≡ length (decimal (x / 10)) + 1
length_more x l = ap length (decimal_more x l) ∙ length-append (decimal (x / 10)) ((48 + x % 10) ∷ [])

pub length_some : (x : ℕ) → 1 ≤ length (decimal x)
length_some x = ⊎_elim (λ h. omega (arith, length_more x h)) (λ h. omega (arith, length-small x h)) (le_or_lt 10 x)

-- a number below a power of ten has as many digits at most
pub length-below : (k x : ℕ) → x < 10 ^ suc k → length (decimal x) ≤ suc k
length-below zero x l = omega (arith, length-small x l)
length-below (suc k) x l =
    ⊎_elim
    (λ h. omega (arith, length_more x h, length-below k (x / 10) ((div-lt_iff_lt-mul (omega arith)).1 (rw pow-suc at l))))
    (λ h. omega (arith, length-small x h))
    (le_or_lt 10 x)

-- ---- counted from the last

pub record Counted (x count rest : ℕ) : Type 0 where
  pub is : count + length (decimal rest) ≡ 1 + length (decimal x)

pub counted_start : (x : ℕ) → Counted x 1 x
counted_start x = record { is = refl }

pub counted_step : {x count rest : ℕ} → Counted x count rest → 10 ≤ rest → Counted x (count + 1) (rest / 10)
counted_step {x} {count} {rest} h l = record { is = omega (arith, h.is, length_more rest l) }

-- two digits at once, and four
pub counted_two : {x count rest : ℕ} → Counted x count rest → 100 ≤ rest → Counted x (count + 2) (rest / 100)
counted_two {x} {count} {rest} h l =
    let e : rest / 10 / 10 ≡ rest / 100 = omega arith in
    let two = counted_step (counted_step h (omega arith)) (omega arith) in
    record { is = omega (arith, two.is, ap (λ (n : ℕ). length (decimal n)) e) }

pub counted_four : {x count rest : ℕ} → Counted x count rest → 10000 ≤ rest → Counted x (count + 4) (rest / 10000)
counted_four {x} {count} {rest} h l =
    let e : rest / 100 / 100 ≡ rest / 10000 = omega arith in
    let four = counted_two (counted_two h (omega arith)) (omega arith) in
    record { is = omega (arith, four.is, ap (λ (n : ℕ). length (decimal n)) e) }

pub counted_few : {x count rest : ℕ} → Counted x count rest → x < 2 ^ 64 → count ≤ 20
counted_few {x} {count} {rest} h l = omega (arith, h.is, length_some rest, length-below 19 x (omega arith))

pub counted_end : {x count rest : ℕ} → Counted x count rest → rest < 10 → count ≡ length (decimal x)
counted_end {x} {count} {rest} h l = omega (arith, h.is, length-small rest l)

pub length_part : (x : ℕ) → length (part x) ≡ 1 + length (decimal x)
unfolding part
length_part x = omega arith

-- std writes the same digits
pub decimal-as_std : (x : ℕ) → x < 2 ^ 64 → std_decimal x ≡ decimal x
decimal-as_std x l =
    decimal_by_steps
    (λ n ds. ds ≡ decimal n)
    (λ n h. sym (decimal-small n h ∙ (let e : 48 + n % 10 ≡ 48 + n = omega arith in rw e)))
    (λ n ds h e. ap (λ (t : List ℕ). t ++ ((48 + n % 10) ∷ [])) e ∙ sym (decimal_more n h))
    x
    l
