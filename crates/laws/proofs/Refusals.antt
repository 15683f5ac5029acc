-- Refusals: what an answer of 0 tells, and what an entry answers and leaves. How one order goes on from another is in `RefusalOrder`. Assumes nothing.
use Prim.Native.Nat.{ℕ, zero, suc, ◌+◌, ◌*◌, ◌≤◌, ◌<◌}
use mathlib.Core.Path.{◌≡◌, refl}
use mathlib.Core.Logic.{◌≢◌}
use mathlib.Core.Bool.{Bool, true, false, cond}
use native.Mathlib.Nat.{mul-le-mul_right, mul-le-mul, suc-mul}
use native.Mathlib.Omega.{arith}
use lib.Dec.{eqb, ltb}
use borrow.Author.Tests.{ltb-false, eqb-true, not-false}
use Rattle.rules.specs.Outcome.{gives, refused, outcome, after, or_else}
use Rattle.rules.specs.Refusals.{outside, differ, set_refusal}
use Rattle.laws.proofs.Tests.{or_off, or_off_r}

-- ---- one after the other

pub else_none : {r : ℕ} → r ≡ 0 → (x : ℕ) → or_else r x ≡ x
unfolding or_else
else_none e x = rw (e, or_else)

pub else_some : {r : ℕ} → r ≢ 0 → (x : ℕ) → or_else r x ≡ r
unfolding or_else
else_some {r} d x = go r d
  where
    go : (r : ℕ) → r ≢ 0 → or_else r x ≡ r
    go zero d = absurd (d refl)
    go (suc r) d = refl

-- none was given, so neither was
pub else_both : (r x : ℕ) → or_else r x ≡ 0 → (r ≡ 0) × (x ≡ 0)
unfolding or_else
else_both zero x e = (refl, e)
else_both (suc r) x e = absurd (none e)
  where
    none : suc r ≡ 0 → ⊥
    none e = omega arith

-- a test that gave no number was false
pub skipped : (t : Bool) (k r : ℕ) → cond t (suc k) r ≡ 0 → (t ≡ false) × (r ≡ 0)
skipped true k r e = absurd (none e)
  where
    none : suc k ≡ 0 → ⊥
    none e = omega arith
skipped false k r e = (refl, e)

-- ---- what a test that is false tells

pub inside : (low high x : ℕ) → outside low high x ≡ false → (low ≤ x) × (x ≤ high)
inside low high x e =
    (ltb-false x low (or_off (ltb x low) (ltb high x) e), ltb-false high x (or_off_r (ltb x low) (ltb high x) e))

pub alike : (x y : ℕ) → differ x y ≡ false → x ≡ y
alike x y e = eqb-true x y (not-false (eqb x y) e)

-- ---- a set

-- what is known of a set that is not refused
pub record SetOk (n d len : ℕ) : Type 0 where
  pub some-points : 1 ≤ n
  pub few-points : n ≤ 128
  pub some-coordinates : 1 ≤ d
  pub few-coordinates : d ≤ 64
  pub whole : len ≡ n * d

pub set_ok : (n d len : ℕ) → set_refusal n d len ≡ 0 → SetOk n d len
unfolding set_refusal
set_ok n d len e =
    let a = skipped (outside 1 128 n) 0 _ e in
    let b = skipped (outside 1 64 d) 1 _ a.1 in
    let c = skipped (differ len (n * d)) 2 _ b.1 in
    let p = inside 1 128 n a.0 in
    let q = inside 1 64 d b.0 in
    record {
      some-points = p.0;
      few-points = p.1;
      some-coordinates = q.0;
      few-coordinates = q.1;
      whole = alike len (n * d) c.0;
    }

-- the coordinates of an id of the set are in the vectors
pub room : {n d len : ℕ} (id : ℕ) → SetOk n d len → id < n → id * d + d ≤ len
room {d = d} id ok l = omega (arith, ok.whole, mul-le-mul_right d l, suc-mul id d)

-- a product of two numbers within their limits
pub small_product : (n d : ℕ) → n ≤ 128 → d ≤ 64 → n * d ≤ 8192
small_product n d h k = mul-le-mul h k

pub small-square : (n : ℕ) → n ≤ 128 → n * n ≤ 16384
small-square n h = mul-le-mul h h

-- ---- what an entry answers and leaves, by whether it is refused

module _ {A : Type 0} where
  pub outcome-gives : {r : ℕ} → r ≡ 0 → (a : A) → outcome r a ≡ gives a
  unfolding outcome
  outcome-gives e a = rw (e, outcome)

  pub outcome-refused : {r : ℕ} → r ≢ 0 → (a : A) → outcome r a ≡ refused r
  unfolding outcome
  outcome-refused {r} d a = go r d
    where
      go : (r : ℕ) → r ≢ 0 → outcome r a ≡ refused r
      go zero d = absurd (d refl)
      go (suc r) d = refl

  pub after_new : {r : ℕ} → r ≡ 0 → (old new : A) → after r old new ≡ new
  unfolding after
  after_new e old new = rw (e, after)

  pub after_old : {r : ℕ} → r ≢ 0 → (old new : A) → after r old new ≡ old
  unfolding after
  after_old {r} d old new = go r d
    where
      go : (r : ℕ) → r ≢ 0 → after r old new ≡ old
      go zero d = absurd (d refl)
      go (suc r) d = refl

  -- an answer that gives something was not refused, and gives that
  pub outcome-none : (r : ℕ) (a b : A) → outcome r a ≡ gives b → r ≡ 0
  unfolding outcome
  outcome-none zero a b e = refl
  outcome-none (suc r) a b e = let z : ◌≡◌ {A = ℕ} 0 1 = cc in absurd (omega arith)

  pub outcome_value : (r : ℕ) (a b : A) → outcome r a ≡ gives b → a ≡ b
  unfolding outcome
  outcome_value zero a b e = cc
  outcome_value (suc r) a b e = let z : ◌≡◌ {A = ℕ} 0 1 = cc in absurd (omega arith)

  -- an answer that is a refusal has the order's number, which is not 0
  pub outcome-number : (r : ℕ) (a : A) (x : ℕ) → outcome r a ≡ refused x → (x ≡ r) × (r ≢ 0)
  unfolding outcome
  outcome-number zero a x e = let z : ◌≡◌ {A = ℕ} 0 1 = cc in absurd (omega arith)
  outcome-number (suc r) a x e = (cc, some)
    where
      some : suc r ≢ 0
      some e = omega arith
