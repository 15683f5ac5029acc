-- The first k of a set and one more id: that id put in its place, and k of that list. Assumes nothing.
use Prim.Native.Nat.{ℕ, zero, suc, ◌≤◌, ◌<◌}
use native.Mathlib.Nat.{le_refl}
use native.Mathlib.Omega.{arith}
use mathlib.Core.Path.{◌≡◌, refl, sym, ap, ◌∙◌}
use mathlib.Core.Logic.{◌⊎◌, inl, inr, ⊎_elim}
use mathlib.Core.Bool.{Bool, true, false}
use mathlib.Core.Option.{some}
use mathlib.Core.List.{List, [], ◌∷◌}
use lib.Dec.{eqb}
use lib.ListN.{take}
use lib.Seq.{take-nil}
use borrow.Author.Tests.{lt-ltb, le-ltb, eq-eqb, eqb-true}
use Rattle.rules.specs.Order.{without, Ordered, first, firsts}
use Rattle.laws.specs.Line.{adding, insert}
use Rattle.laws.proofs.Tests.{both, never, same, or_l, or_r, or_cases, le_or_lt}
use Rattle.laws.proofs.Order.{Least, without_in, without_of, without_ne}
use Rattle.laws.proofs.Order.{first-none, first_some, first_cases, first_same, firsts-none, firsts-some, firsts_same}
use Rattle.laws.proofs.Nearest.{first-is}

-- ---- sets

adding_cases : (x : ℕ) (p : ℕ → Bool) (y : ℕ) → adding x p y ≡ true → (x ≡ y) ⊎ (p y ≡ true)
unfolding adding
adding_cases x p y e = ⊎_elim (λ t. inl (eqb-true x y t)) inr (or_cases (eqb x y) (p y) e)

pub adding_new : (x : ℕ) (p : ℕ → Bool) → adding x p x ≡ true
unfolding adding
adding_new x p = or_l (eqb x x) (p x) (eq-eqb x x refl)

adding_old : (x : ℕ) (p : ℕ → Bool) (y : ℕ) → p y ≡ true → adding x p y ≡ true
unfolding adding
adding_old x p y e = or_r (eqb x y) (p y) e

-- x taken out again
added_without : (x : ℕ) (p : ℕ → Bool) → p x ≡ false → (y : ℕ) → without x (adding x p) y ≡ p y
added_without x p f y =
    same
    _
    _
    (λ e. ⊎_elim (λ q. absurd (without_ne x (adding x p) y e (sym q))) (λ t. t) (adding_cases x p y (without_of x (adding x p) y e)))
    (λ e. without_in x (adding x p) y (adding_old x p y e) (λ q. never (rw q at e) f))

-- another id taken out
without-adding : (x z : ℕ) (p : ℕ → Bool) → (x ≡ z → ⊥) → (y : ℕ) → without z (adding x p) y ≡ adding x (without z p) y
without-adding x z p d y =
    same
    _
    _
    (λ e. ⊎_elim
    (λ q. rw q (adding_new y (without z p)))
    (λ t. adding_old x (without z p) y (without_in z p y t (without_ne z (adding x p) y e)))
    (adding_cases x p y (without_of z (adding x p) y e)))
    (λ e. ⊎_elim
    (λ q. without_in z (adding x p) y (rw q (adding_new y p)) (λ s. d (q ∙ s)))
    (λ t. without_in z (adding x p) y (adding_old x p y (without_of z p y t)) (without_ne z p y t))
    (adding_cases x (without z p) y e))

-- ---- lists

pub insert-nil : (key : ℕ → ℕ) (x : ℕ) → insert key x [] ≡ x ∷ []
unfolding insert
insert-nil key x = refl

pub insert-before : (key : ℕ → ℕ) (x y : ℕ) (l : List ℕ) → key x < key y → insert key x (y ∷ l) ≡ x ∷ y ∷ l
unfolding insert
insert-before key x y l h = rw (lt-ltb (key x) (key y) h, insert)

pub insert-after : (key : ℕ → ℕ) (x y : ℕ) (l : List ℕ) → key y ≤ key x → insert key x (y ∷ l) ≡ y ∷ insert key x l
unfolding insert
insert-after key x y l h = rw (le-ltb (key x) (key y) h, insert)

module _ (key : ℕ → ℕ) (n : ℕ) where
  pub firsts-zero : (p : ℕ → Bool) → firsts key n 0 p ≡ []
  unfolding firsts
  firsts-zero p = refl

  -- the first k are the first of the first k + 1
  pub firsts-take : (k : ℕ) (p : ℕ → Bool) → take k (firsts key n (suc k) p) ≡ firsts key n k p
  unfolding firsts
  firsts-take zero p = refl
  firsts-take (suc k) p =
      ⊎_elim
      (λ e. rw (firsts-none key n (suc (suc k)) p e, firsts-none key n (suc k) p e))
      (λ f. rw (firsts-some key n (suc k) p f.1, firsts-some key n k p f.1) (ap (λ (l : List ℕ). f.0 ∷ l) (firsts-take k (without f.0 p))))
      (first_cases key n p)

  module _ (ordered : Ordered n key) (x : ℕ) (lx : x < n) where
    -- the first of all, x added
    first_new : (p : ℕ → Bool) → ((y : ℕ) → y < n → p y ≡ true → key x ≤ key y) → first key n (adding x p) ≡ some x
    first_new p h =
        first-is key n ordered (adding x p) x (lx, adding_new x p, λ y l e. ⊎_elim (λ q. rw q (le_refl (key y))) (λ t. h y l t) (adding_cases x p y e))

    first_old : (p : ℕ → Bool) (z : ℕ) → Least key n p z → key z ≤ key x → first key n (adding x p) ≡ some z
    first_old p z h c =
        first-is key n ordered (adding x p) z (h.0, adding_old x p z h.1, λ y l e. ⊎_elim (λ q. rw (← q) c) (λ t. h.2 y l t) (adding_cases x p y e))

    pub firsts-insert : (k : ℕ) (p : ℕ → Bool) → p x ≡ false → firsts key n k (adding x p) ≡ take k (insert key x (firsts key n k p))
    firsts-insert zero p f = firsts-zero (adding x p)
    firsts-insert (suc k) p f =
        ⊎_elim
        (λ e.
        let new = first_new p (λ y l t. absurd (first-none key n p e y l t)) in
        let rest = first_same key n (without x (adding x p)) p (λ y l. added_without x p f y) ∙ e in
        firsts-some key n k (adding x p) new
        ∙ ap (λ (l : List ℕ). x ∷ l) (firsts-none key n k (without x (adding x p)) rest)
        ∙ rw (firsts-none key n (suc k) p e, insert-nil key x, take-nil k))
        (λ g.
        let z : ℕ = g.0 in
        let h = first_some key n p g.1 in
        let old = firsts-some key n k p g.1 in
        ⊎_elim
        (λ (c : key z ≤ key x).
        let d : x ≡ z → ⊥ = λ q. never (rw (← q) at h.1) f in
        let out : without z p x ≡ false = ⊎_elim (λ t. absurd (never (without_of z p x t) f)) (λ t. t) (both (without z p x)) in
        let new = first_old p z h c in
        let rest = firsts_same key n k (without z (adding x p)) (adding x (without z p)) (λ y l. without-adding x z p d y) in
        firsts-some key n k (adding x p) new
        ∙ ap (λ (l : List ℕ). z ∷ l) (rest ∙ firsts-insert k (without z p) out)
        ∙ rw (old, insert-after key x z (firsts key n k (without z p)) c))
        (λ (c : key x < key z).
        let new = first_new p (λ y l t. omega (arith, h.2 y l t)) in
        firsts-some key n k (adding x p) new
        ∙ ap (λ (l : List ℕ). x ∷ l) (firsts_same key n k (without x (adding x p)) p (λ y l. added_without x p f y) ∙ sym (firsts-take k p))
        ∙ rw (old, insert-before key x z (firsts key n k (without z p)) c))
        (le_or_lt (key z) (key x)))
        (first_cases key n p)
