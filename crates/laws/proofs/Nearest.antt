-- `firsts` is the one list that holds the k first ids in order: what `Nearest` says of it, and that it says it of no other. Assumes nothing.
use Prim.Native.Nat.{ℕ, zero, suc, ◌<◌, min}
use native.Mathlib.Nat.{le_refl, le_antisymm, lt_irrefl, eq-or-lt_of_le}
use native.Mathlib.Omega.{arith}
use mathlib.Core.Path.{◌≡◌, refl, sym, ap, ◌∙◌}
use mathlib.Core.Logic.{◌⊎◌, inl, inr, ⊎_elim}
use mathlib.Core.Bool.{Bool, true, false, false≢true}
use mathlib.Core.Option.{some}
use mathlib.Core.List.{List, [], ◌∷◌}
use lib.Dec.{eqb}
use borrow.Author.Tests.{eqb-true, eq-eqb, eqb-false}
use Rattle.rules.specs.Order.{count, without, on, Ordered, first, firsts, Nearest}
use Rattle.laws.proofs.Tests.{both, never, same, or_l, or_r, or_off, or_off_r, or_cases, count_one, count_none, count-pos}
use Rattle.laws.proofs.Order.{Least, without_in, without_of, without_ne, first-none, first_some, first_cases, firsts-none, firsts-some}

-- ---- on a list

pub on_cases : (x : ℕ) (l : List ℕ) (y : ℕ) → on (x ∷ l) y ≡ true → (x ≡ y) ⊎ (on l y ≡ true)
unfolding on
on_cases x l y e = ⊎_elim (λ a. inl (eqb-true x y a)) inr (or_cases (eqb x y) (on l y) e)

pub on_head : (x : ℕ) (l : List ℕ) → on (x ∷ l) x ≡ true
unfolding on
on_head x l = or_l (eqb x x) (on l x) (eq-eqb x x refl)

pub on_tail : (x : ℕ) (l : List ℕ) (y : ℕ) → on l y ≡ true → on (x ∷ l) y ≡ true
unfolding on
on_tail x l y e = or_r (eqb x y) (on l y) e

pub off_head : (x : ℕ) (l : List ℕ) (y : ℕ) → on (x ∷ l) y ≡ false → y ≡ x → ⊥
unfolding on
off_head x l y e q = eqb-false x y (or_off (eqb x y) (on l y) e) (sym q)

pub off_tail : (x : ℕ) (l : List ℕ) (y : ℕ) → on (x ∷ l) y ≡ false → on l y ≡ false
unfolding on
off_tail x l y e = or_off_r (eqb x y) (on l y) e

pub off_both : (x : ℕ) (l : List ℕ) (y : ℕ) → (y ≡ x → ⊥) → on l y ≡ false → on (x ∷ l) y ≡ false
unfolding on
off_both x l y d e = ⊎_elim (λ t. absurd (⊎_elim (λ q. d (sym q)) (λ o. never o e) (on_cases x l y t))) (λ f. f) (both (on (x ∷ l) y))

pub count-without : (n : ℕ) (p : ℕ → Bool) (x : ℕ) → x < n → p x ≡ true → count n p ≡ suc (count n (without x p))
count-without n p x l e =
    count_one
    n
    (without x p)
    p
    x
    l
    (⊎_elim (λ t. absurd (without_ne x p x t refl)) (λ f. f) (both (without x p x)))
    e
    (λ y d. same (without x p y) (p y) (without_of x p y) (λ t. without_in x p y t d))

module _ (key : ℕ → ℕ) (n : ℕ) (ordered : Ordered n key) where
  -- an id with the least key is the first
  pub first-is : (p : ℕ → Bool) (x : ℕ) → Least key n p x → first key n p ≡ some x
  first-is p x h =
      ⊎_elim
      (λ e. absurd (first-none key n p e x h.0 h.1))
      (λ f.
      let l = first_some key n p f.1 in
      f.1 ∙ ap some (ordered f.0 x l.0 h.0 (le_antisymm (l.2 x h.0 h.1) (h.2 f.0 l.0 l.1))))
      (first_cases key n p)

  -- the others come later
  pub later : (p : ℕ → Bool) (x : ℕ) → Least key n p x → (y : ℕ) → y < n → p y ≡ true → (y ≡ x → ⊥) → key x < key y
  later p x h y l e d = ⊎_elim (λ q. absurd (d (sym (ordered x y h.0 l q)))) (λ k. k) (eq-or-lt_of_le (h.2 y l e))

  nearest-nil : (k : ℕ) (p : ℕ → Bool) → min k (count n p) ≡ 0 → Nearest key n k p []
  unfolding on
  nearest-nil k p e = record {
    many = sym e;
    rising = tt;
    each = λ y o. absurd (false≢true o);
    others = λ y l t f z o. absurd (false≢true o);
  }

  nearest-cons : (k : ℕ) (p : ℕ → Bool) (x : ℕ) (l : List ℕ) → Least key n p x → Nearest key n k (without x p) l → Nearest key n (suc k) p (x ∷ l)
  nearest-cons k p x l h r = record {
    many = omega (arith, r.many, count-without n p x h.0 h.1);
    rising = (λ y o. let e = r.each y o in later p x h y e.0 (without_of x p y e.1) (without_ne x p y e.1), r.rising);
    each = λ y o. ⊎_elim (λ q. (rw q at h.0, rw q at h.1)) (λ t. let e = r.each y t in (e.0, without_of x p y e.1)) (on_cases x l y o);
    others = λ y ly e f z o.
        ⊎_elim
        (λ q. rw (← q) (later p x h y ly e (off_head x l y f)))
        (λ t. r.others y ly (without_in x p y e (off_head x l y f)) (off_tail x l y f) z t)
        (on_cases x l z o);
  }

  pub firsts-nearest : (k : ℕ) (p : ℕ → Bool) → Nearest key n k p (firsts key n k p)
  unfolding firsts
  firsts-nearest zero p = nearest-nil 0 p (omega arith)
  firsts-nearest (suc k) p =
      ⊎_elim
      (λ e. rw (firsts-none key n (suc k) p e) (nearest-nil (suc k) p (omega (arith, count_none n p (first-none key n p e)))))
      (λ f.
      let x : ℕ = f.0 in
      rw
      (firsts-some key n k p f.1)
      (nearest-cons k p x (firsts key n k (without x p)) (first_some key n p f.1) (firsts-nearest k (without x p))))
      (first_cases key n p)

  nearest_head : (k : ℕ) (p : ℕ → Bool) (x : ℕ) (l : List ℕ) → Nearest key n k p (x ∷ l) → Least key n p x
  nearest_head k p x l r =
      let h = r.each x (on_head x l) in (
        h.0,
        h.1,
        λ y ly e.
            ⊎_elim
            (λ o. ⊎_elim (λ q. rw q (le_refl (key y))) (λ t. omega (arith, r.rising.0 y t)) (on_cases x l y o))
            (λ o. omega (arith, r.others y ly e o x (on_head x l)))
            (both (on (x ∷ l) y)),
      )

  nearest_tail : (k : ℕ) (p : ℕ → Bool) (x : ℕ) (l : List ℕ) → Nearest key n (suc k) p (x ∷ l) → Nearest key n k (without x p) l
  nearest_tail k p x l r =
      let h = r.each x (on_head x l) in
      record {
        many = omega (arith, r.many, count-without n p x h.0 h.1);
        rising = r.rising.1;
        each = λ y o.
            let e = r.each y (on_tail x l y o) in
            (e.0, without_in x p y e.1 (λ q. lt_irrefl (key x) (omega (arith, r.rising.0 y o, ap key q))));
        others = λ y ly e f z o.
            r.others y ly (without_of x p y e) (off_both x l y (without_ne x p y e) f) z (on_tail x l z o);
      }

  -- no other list is so
  pub nearest_one : (k : ℕ) (p : ℕ → Bool) (l : List ℕ) → Nearest key n k p l → l ≡ firsts key n k p
  unfolding firsts
  nearest_one zero p [] r = refl
  nearest_one zero p (x ∷ l) r = absurd (lt_irrefl 0 (omega (arith, r.many)))
  nearest_one (suc k) p [] r =
      ⊎_elim
      (λ e. sym (firsts-none key n (suc k) p e))
      (λ f.
      let l = first_some key n p f.1 in
      absurd (lt_irrefl 0 (omega (arith, r.many, count-pos n p f.0 l.0 l.1))))
      (first_cases key n p)
  nearest_one (suc k) p (x ∷ l) r =
      ap (λ (t : List ℕ). x ∷ t) (nearest_one k (without x p) l (nearest_tail k p x l r))
      ∙ sym (firsts-some key n k p (first-is p x (nearest_head (suc k) p x l r)))
