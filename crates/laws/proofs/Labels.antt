-- The label: its test is anti-monotone, so that the largest number that passes is well defined; it is within one step of the exact value and at most
-- 32,624 under document 01's limits. Assumes nothing.
use Prim.Native.Nat.{ℕ, zero, suc, ◌+◌, ◌-◌, ◌*◌, ◌≤◌, ◌<◌}
use mathlib.Core.Path.{◌≡◌, refl, subst, ◌∙◌}
use mathlib.Core.Bool.{Bool, true, false}
use native.Mathlib.Nat.{mul-le-mul, mul-le-mul_left, mul-le-mul_right, le_trans}
use native.Mathlib.Decide.{dec_le}
use native.Mathlib.Omega.{arith}
use lib.Dec.{leb}
use borrow.Author.Tests.{leb-true, le-leb}
use Rattle.rules.specs.Labels.{reaches, not_above, largest, label_of}
use Rattle.laws.proofs.Tests.{never, and_l, and_r, and_i}

-- ---- the test

-- what the test says, as two facts
pub record Reaches (a b c : ℕ) : Type 0 where
  pub room : b + c ≤ a
  pub square : 4 * c * b ≤ (a - b - c) * (a - b - c)

pub reaches_facts : (a b c : ℕ) → reaches a b c ≡ true → Reaches a b c
unfolding reaches
reaches_facts a b c e =
    let x = leb (b + c) a in
    let y = leb (4 * c * b) ((a - b - c) * (a - b - c)) in
    record { room = leb-true _ _ (and_l x y e); square = leb-true _ _ (and_r x y e) }

pub facts_reach : (a b c : ℕ) → Reaches a b c → reaches a b c ≡ true
unfolding reaches
facts_reach a b c u = and_i _ _ (le-leb _ _ u.room) (le-leb _ _ u.square)

-- what is reached, is reached by less
pub reaches-less : (a b c e : ℕ) → c ≤ e → reaches a b e ≡ true → reaches a b c ≡ true
reaches-less a b c e h t =
    let u = reaches_facts a b e t in
    let x : a - b - e ≤ a - b - c = omega arith in
    facts_reach a b c (record {
      room = omega (arith, u.room);
      square = le_trans (mul-le-mul_right b (mul-le-mul_left 4 h)) (le_trans u.square (mul-le-mul x x));
    })

-- a smaller number passes too
pub test_down : (duv dwv s t : ℕ) → s ≤ t → not_above duv dwv t ≡ true → not_above duv dwv s ≡ true
unfolding not_above
test_down duv dwv s t h e = reaches-less (256 * duv) (256 * dwv) (s * s) (t * t) (mul-le-mul h h) e

-- so a larger one than one that fails fails
pub test_up : (duv dwv s t : ℕ) → s ≤ t → not_above duv dwv s ≡ false → not_above duv dwv t ≡ false
test_up duv dwv s t h e = by (not_above duv dwv t) refl
  where
    by : (v : Bool) → not_above duv dwv t ≡ v → v ≡ false
    by true f = absurd (never (test_down duv dwv s t h f) e)
    by false f = refl

-- ---- the largest

-- the largest is the one that passes, where it is above 0, and above which none passes
pub largest-is : (p : ℕ → Bool) (k r : ℕ) → r ≤ k → (0 < r → p r ≡ true) → ((t : ℕ) → r < t → t ≤ k → p t ≡ false) → r ≡ largest p k
unfolding largest
largest-is p zero r h passes fails = omega arith
largest-is p (suc k) r h passes fails = by (λ l. largest-is p k r l passes (λ t a b. fails t a (omega arith))) (dec_le r k)
  where
    by : (r ≤ k → r ≡ largest p k) → Dec (r ≤ k) → r ≡ largest p (suc k)
    by below (yes l) = below l ∙ rw (fails (suc k) (omega arith) (omega arith), largest)
    by below (no n) =
        let e : r ≡ suc k = omega arith in
        let pk : p (suc k) ≡ true = subst (λ (x : ℕ). p x ≡ true) e (passes (omega arith)) in
        e ∙ rw (pk, largest)

-- it passes, where 0 does
pub largest_passes : (p : ℕ → Bool) (k : ℕ) → p 0 ≡ true → p (largest p k) ≡ true
unfolding largest
largest_passes p zero z = z
largest_passes p (suc k) z = by (largest_passes p k z) (p (suc k)) refl
  where
    by : p (largest p k) ≡ true → (v : Bool) → p (suc k) ≡ v → p (largest p (suc k)) ≡ true
    by below true e = rw (e, largest) e
    by below false e = rw (e, largest) below

-- and none that passes is larger
pub largest_most : (p : ℕ → Bool) (k t : ℕ) → t ≤ k → p t ≡ true → t ≤ largest p k
unfolding largest
largest_most p zero t h y = h
largest_most p (suc k) t h y = by (λ l. largest_most p k t l y) (p (suc k)) refl (dec_le t k)
  where
    by : (t ≤ k → t ≤ largest p k) → (v : Bool) → p (suc k) ≡ v → Dec (t ≤ k) → t ≤ largest p (suc k)
    by below true e d = rw (e, largest) h
    by below false e (yes l) = rw (e, largest) (below l)
    by below false e (no n) =
        let t_is : t ≡ suc k = omega arith in
        absurd (never (subst (λ (x : ℕ). p x ≡ true) t_is y) e)

-- ---- the label

-- a number that passes, the next of which fails, is the label: for code that has found it
pub label_is : (duv dwv r : ℕ)
    → r ≤ 32767
    → (0 < r → not_above duv dwv r ≡ true)
    → (r < 32767 → not_above duv dwv (r + 1) ≡ false)
    → r ≡ label_of duv dwv
unfolding label_of
label_is duv dwv r h passes fails =
    largest-is (not_above duv dwv) 32767 r h passes (λ t l m. test_up duv dwv (r + 1) t (omega arith) (fails (omega arith)))

-- of document 01's distances no number above 32,640 passes, so that the search from 32,767 down leaves none out
pub test_limit : (duv dwv t : ℕ) → duv ≤ 4161600 → not_above duv dwv t ≡ true → t ≤ 32640
unfolding not_above
test_limit duv dwv t h e = by (dec_le t 32640)
  where
    by : Dec (t ≤ 32640) → t ≤ 32640
    by (yes l) = l
    by (no n) =
        let more : 32641 ≤ t = omega arith in
        let big : 32641 * 32641 ≤ t * t = mul-le-mul more more in
        omega (arith, reaches_facts (256 * duv) (256 * dwv) (t * t) e)

-- the label passes, where the leading point is no farther from v than u is
pub label_passes : (duv dwv : ℕ) → dwv ≤ duv → not_above duv dwv (label_of duv dwv) ≡ true
unfolding label_of not_above
label_passes duv dwv h =
    largest_passes (not_above duv dwv) 32767 (facts_reach (256 * duv) (256 * dwv) 0 (record { room = omega arith; square = omega arith }))

-- and every number that passes is at most the label: the label is the largest, and the next number is above the exact value
pub label_most : (duv dwv t : ℕ) → duv ≤ 4161600 → not_above duv dwv t ≡ true → t ≤ label_of duv dwv
unfolding label_of
label_most duv dwv t h e = largest_most (not_above duv dwv) 32767 t (omega (arith, test_limit duv dwv t h e)) e

pub label-next : (duv dwv : ℕ) → duv ≤ 4161600 → not_above duv dwv (label_of duv dwv + 1) ≡ false
label-next duv dwv h = by (not_above duv dwv (label_of duv dwv + 1)) refl
  where
    by : (v : Bool) → not_above duv dwv (label_of duv dwv + 1) ≡ v → v ≡ false
    by true e = absurd (none (label_most duv dwv (label_of duv dwv + 1) h e))
      where
        none : label_of duv dwv + 1 ≤ label_of duv dwv → ⊥
        none l = omega arith
    by false e = refl
