-- Tests and counts over the ids below n. Assumes nothing.
use Prim.Native.Nat.{ℕ, zero, suc, ◌+◌, ◌≤◌, ◌<◌, zero-le}
use native.Mathlib.Nat.{le_of_suc-le-suc, eq-or-lt_of_le, not-suc-le-zero, lt_irrefl}
use native.Mathlib.Omega.{arith}
use mathlib.Core.Path.{◌≡◌, refl, sym, ap₂, ◌∙◌}
use mathlib.Core.Logic.{◌⊎◌, inl, inr, ⊎_elim}
use mathlib.Core.Bool.{Bool, true, false, cond, ◌&&◌, ◌||◌, true≢false, false≢true}
use mathlib.Core.Option.{Option, none, some}
use lib.Dec.{leb}
use borrow.Author.Tests.{leb-true, leb-false}
use Rattle.rules.specs.Order.{count, any, Within}

-- ---- tests

pub both : (b : Bool) → (b ≡ true) ⊎ (b ≡ false)
both true = inl refl
both false = inr refl

pub never : {b : Bool} → b ≡ true → b ≡ false → ⊥
never {b} t f = true≢false (sym t ∙ f)

pub same : (a b : Bool) → (a ≡ true → b ≡ true) → (b ≡ true → a ≡ true) → a ≡ b
same true b f g = sym (f refl)
same false true f g = g refl
same false false f g = refl

pub and_l : (a b : Bool) → a && b ≡ true → a ≡ true
and_l true b e = refl
and_l false b e = e

pub and_r : (a b : Bool) → a && b ≡ true → b ≡ true
and_r true b e = e
and_r false b e = absurd (false≢true e)

pub and_i : (a b : Bool) → a ≡ true → b ≡ true → a && b ≡ true
and_i true b p q = q
and_i false b p q = p

pub and_false : (a : Bool) → a && false ≡ false
and_false true = refl
and_false false = refl

pub or_l : (a b : Bool) → a ≡ true → a || b ≡ true
or_l true b e = refl
or_l false b e = absurd (false≢true e)

pub or_r : (a b : Bool) → b ≡ true → a || b ≡ true
or_r true b e = refl
or_r false b e = e

pub or_cases : (a b : Bool) → a || b ≡ true → (a ≡ true) ⊎ (b ≡ true)
or_cases true b e = inl refl
or_cases false b e = inr e

pub or_off : (a b : Bool) → a || b ≡ false → a ≡ false
or_off true b e = e
or_off false b e = refl

pub or_off_r : (a b : Bool) → a || b ≡ false → b ≡ false
or_off_r true b e = absurd (true≢false e)
or_off_r false b e = e

pub or_false : (a : Bool) → a || false ≡ a
or_false true = refl
or_false false = refl

pub or_assoc : (a b c : Bool) → a || b || c ≡ a || (b || c)
or_assoc true b c = refl
or_assoc false b c = refl

pub none-some : {x : ℕ} → ◌≡◌ {A = Option ℕ} none (some x) → ⊥
none-some e = let z : ◌≡◌ {A = ℕ} 0 1 = cc in omega arith

-- ---- the ids below n + 1

pub below : {y n : ℕ} → y < suc n → (y ≡ n) ⊎ (y < n)
below h = eq-or-lt_of_le (le_of_suc-le-suc h)

pub le_or_lt : (a b : ℕ) → (a ≤ b) ⊎ (b < a)
le_or_lt a b = ⊎_elim (λ e. inl (leb-true a b e)) (λ e. inr (leb-false a b e)) (both (leb a b))

-- ---- counts

bit_mono : (a b : Bool) → (a ≡ true → b ≡ true) → cond {A = ℕ} a 1 0 ≤ cond b 1 0
bit_mono true true h = omega arith
bit_mono true false h = absurd (false≢true (h refl))
bit_mono false b h = zero-le

pub count_mono : (n : ℕ) (p q : ℕ → Bool) → Within n p q → count n p ≤ count n q
unfolding count
count_mono zero p q h = zero-le
count_mono (suc n) p q h = omega (arith, bit_mono (p n) (q n) (h n (omega arith)), count_mono n p q (λ y l. h y (omega arith)))

bit-less : (a b : Bool) → a ≡ false → b ≡ true → cond {A = ℕ} a 1 0 < cond b 1 0
bit-less a b p q = rw (p, q) (omega arith)

-- one id fewer passes at least
pub count_less : (n : ℕ) (p q : ℕ → Bool) → Within n p q → (x : ℕ) → x < n → p x ≡ false → q x ≡ true → count n p < count n q
unfolding count
count_less zero p q h x l f t = absurd (not-suc-le-zero l)
count_less (suc n) p q h x l f t =
    let less : (y : ℕ) → y < n → p y ≡ true → q y ≡ true = λ y k. h y (omega arith) in
    ⊎_elim
    (λ e. omega (arith, bit-less (p n) (q n) (rw e at f) (rw e at t), count_mono n p q less))
    (λ k. omega (arith, bit_mono (p n) (q n) (h n (omega arith)), count_less n p q less x k f t))
    (below l)

pub count_all : (n : ℕ) → count n (λ y. true) ≡ n
unfolding count
count_all zero = refl
count_all (suc n) = omega (arith, count_all n)

pub count_le : (n : ℕ) (p : ℕ → Bool) → count n p ≤ n
count_le n p = omega (arith, count_mono n p (λ y. true) (λ y l e. refl), count_all n)

pub count-pos : (n : ℕ) (p : ℕ → Bool) (x : ℕ) → x < n → p x ≡ true → 0 < count n p
count-pos n p x l e = omega (arith, count_less n (λ y. false) p (λ y k a. absurd (false≢true a)) x l refl e)

pub count_none : (n : ℕ) (p : ℕ → Bool) → ((y : ℕ) → y < n → p y ≡ true → ⊥) → count n p ≡ 0
unfolding count
count_none zero p h = refl
count_none (suc n) p h =
    ⊎_elim
    (λ t. absurd (h n (omega arith) t))
    (λ f. rw f (omega (arith, count_none n p (λ y l. h y (omega arith)))))
    (both (p n))

pub count_lt : (n : ℕ) (p : ℕ → Bool) (x : ℕ) → x < n → p x ≡ false → count n p < n
count_lt n p x l e = omega (arith, count_less n p (λ y. true) (λ y k a. refl) x l e refl, count_all n)

pub count_same : (n : ℕ) (p q : ℕ → Bool) → ((y : ℕ) → y < n → p y ≡ q y) → count n p ≡ count n q
unfolding count
count_same zero p q h = refl
count_same (suc n) p q h = ap₂ (λ b m. cond b 1 0 + m) (h n (omega arith)) (count_same n p q (λ y l. h y (omega arith)))

-- q is p and x
pub count_one : (n : ℕ) (p q : ℕ → Bool) (x : ℕ)
    → x < n
    → p x ≡ false
    → q x ≡ true
    → ((y : ℕ) → (y ≡ x → ⊥) → p y ≡ q y)
    → count n q ≡ suc (count n p)
unfolding count
count_one zero p q x l f t h = absurd (not-suc-le-zero l)
count_one (suc n) p q x l f t h =
    ⊎_elim
    (λ e.
    let rest : count n p ≡ count n q = count_same n p q (λ y k. h y (λ d. lt_irrefl n (omega (arith, e, d)))) in
    rw (rw e at f, rw e at t) (omega arith))
    (λ k. rw (h n (λ d. lt_irrefl n (omega (arith, k, d)))) (omega (arith, count_one n p q x k f t h)))
    (below l)

-- ---- is there one

pub any_in : (n : ℕ) (p : ℕ → Bool) (x : ℕ) → x < n → p x ≡ true → any n p ≡ true
unfolding any
any_in zero p x l e = absurd (not-suc-le-zero l)
any_in (suc n) p x l e =
    ⊎_elim (λ q. or_l (p n) (any n p) (rw q at e)) (λ k. or_r (p n) (any n p) (any_in n p x k e)) (below l)

pub any_out : (n : ℕ) (p : ℕ → Bool) → any n p ≡ true → (x : ℕ) × (x < n) × (p x ≡ true)
unfolding any
any_out zero p e = absurd (false≢true e)
any_out (suc n) p e =
    ⊎_elim (λ q. (n, omega arith, q)) (λ q. let r = any_out n p q in (r.0, omega (arith, r.1), r.2)) (or_cases (p n) (any n p) e)

pub any_same : (n : ℕ) (p q : ℕ → Bool) → ((x : ℕ) → x < n → p x ≡ q x) → any n p ≡ any n q
unfolding any
any_same zero p q h = refl
any_same (suc n) p q h = ap₂ (λ a b. a || b) (h n (omega arith)) (any_same n p q (λ x l. h x (omega arith)))
