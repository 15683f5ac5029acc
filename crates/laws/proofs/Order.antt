-- The first ids in order: what `first` and `firsts` give, and how they change as the set of ids grows. Assumes nothing.
use Prim.Native.Nat.{ℕ, zero, suc, ◌≤◌, ◌<◌, zero-le}
use native.Mathlib.Nat.{le_refl, le_antisymm, not-suc-le-zero}
use native.Mathlib.Omega.{arith}
use mathlib.Core.Path.{◌≡◌, refl, sym, ap, ap₂, ◌∙◌, subst}
use mathlib.Core.Logic.{◌⊎◌, inl, inr, ⊎_elim}
use mathlib.Core.Bool.{Bool, true, false, cond, not, ◌&&◌}
use mathlib.Core.Option.{Option, none, some}
use mathlib.Core.List.{List, [], ◌∷◌}
use lib.ListN.{length, get_or}
use lib.Dec.{ltb, eqb}
use borrow.Author.Tests.{ltb-true, ltb-false, ne_eqb, eqb-false, not-true}
use Rattle.rules.specs.Order.{without, Within, Ordered, pick, first, firsts, NoLater}
use Rattle.laws.proofs.Tests.{never, and_l, and_r, and_i, below}

-- ---- all but one

pub without_in : (x : ℕ) (p : ℕ → Bool) (y : ℕ) → p y ≡ true → (y ≡ x → ⊥) → without x p y ≡ true
unfolding without
without_in x p y e d = and_i (p y) (not (eqb y x)) e (ap not (ne_eqb y x d))

pub without_of : (x : ℕ) (p : ℕ → Bool) (y : ℕ) → without x p y ≡ true → p y ≡ true
unfolding without
without_of x p y e = and_l (p y) (not (eqb y x)) e

pub without_ne : (x : ℕ) (p : ℕ → Bool) (y : ℕ) → without x p y ≡ true → y ≡ x → ⊥
unfolding without
without_ne x p y e = eqb-false y x (not-true (eqb y x) (and_r (p y) (not (eqb y x)) e))

without_same : (x : ℕ) (p q : ℕ → Bool) (y : ℕ) → p y ≡ q y → without x p y ≡ without x q y
unfolding without
without_same x p q y e = ap (λ (b : Bool). b && not (eqb y x)) e

-- no id below n passes
abbrev pub None : ℕ → (ℕ → Bool) → Type 0
None n p = (y : ℕ) → y < n → p y ≡ true → ⊥

module _ (key : ℕ → ℕ) where
  -- x is the passing id with the least key
  abbrev pub Least : ℕ → (ℕ → Bool) → ℕ → Type 0
  Least n p x = (x < n) × (p x ≡ true) × ((y : ℕ) → y < n → p y ≡ true → key x ≤ key y)

  abbrev First : ℕ → (ℕ → Bool) → Option ℕ → Type 0
  First n p none = None n p
  First n p (some x) = Least n p x

  -- what holds of each passing id below n, and of n where that passes, holds of each passing id below n + 1
  more : (n : ℕ) (p : ℕ → Bool) (P : ℕ → Type 0) → ((y : ℕ) → y < n → p y ≡ true → P y) → (p n ≡ true → P n) → (y : ℕ) → y < suc n → p y ≡ true → P y
  more n p P h t y l e = ⊎_elim (λ q. subst P (sym q) (t (rw q at e))) (λ k. h y k e) (below l)

  earlier : (n : ℕ) (p : ℕ → Bool) (x : ℕ) (b : Bool)
      → ltb (key n) (key x) ≡ b
      → p n ≡ true
      → Least n p x
      → First (suc n) p (cond b (some n) (some x))
  earlier n p x true c e h = (
    omega arith,
    e,
    more n p (λ y. key n ≤ key y) (λ y l q. omega (arith, ltb-true (key n) (key x) c, h.2 y l q)) (λ q. le_refl (key n)),
  )
  earlier n p x false c e h = (omega arith, h.1, more n p (λ y. key x ≤ key y) h.2 (λ q. ltb-false (key n) (key x) c))

  picked : (n : ℕ) (p : ℕ → Bool) (b : Bool) (r : Option ℕ) → p n ≡ b → First n p r → First (suc n) p (pick key b n r)
  unfolding pick
  picked n p false none e h = more n p (λ y. ⊥) h (λ q. never q e)
  picked n p false (some x) e h = (omega arith, h.1, more n p (λ y. key x ≤ key y) h.2 (λ q. absurd (never q e)))
  picked n p true none e h = (omega arith, e, more n p (λ y. key n ≤ key y) (λ y l q. absurd (h y l q)) (λ q. le_refl (key n)))
  picked n p true (some x) e h = earlier n p x (ltb (key n) (key x)) refl e h

  found_first : (n : ℕ) (p : ℕ → Bool) → First n p (first key n p)
  unfolding first
  found_first zero p = λ y l e. not-suc-le-zero l
  found_first (suc n) p = picked n p (p n) (first key n p) refl (found_first n p)

  pub first-none : (n : ℕ) (p : ℕ → Bool) → first key n p ≡ none → None n p
  first-none n p e = subst (First n p) e (found_first n p)

  pub first_some : (n : ℕ) (p : ℕ → Bool) {x : ℕ} → first key n p ≡ some x → Least n p x
  first_some n p e = subst (First n p) e (found_first n p)

  -- `first`, and the equation that says so, by cases
  pub first_cases : (n : ℕ) (p : ℕ → Bool) → (first key n p ≡ none) ⊎ ((x : ℕ) × (first key n p ≡ some x))
  first_cases n p = go (first key n p) refl
    where
      go : (r : Option ℕ) → first key n p ≡ r → (first key n p ≡ none) ⊎ ((x : ℕ) × (first key n p ≡ some x))
      go none e = inl e
      go (some x) e = inr (x, e)

  -- ---- the first k

  pub firsts-none : (n k : ℕ) (p : ℕ → Bool) → first key n p ≡ none → firsts key n k p ≡ []
  unfolding firsts
  firsts-none n zero p e = refl
  firsts-none n (suc k) p e = rw (e, firsts)

  pub firsts-some : (n k : ℕ) (p : ℕ → Bool) {x : ℕ} → first key n p ≡ some x → firsts key n (suc k) p ≡ x ∷ firsts key n k (without x p)
  unfolding firsts
  firsts-some n k p e = rw (e, firsts)

  -- the same ids, the same answers
  pub first_same : (n : ℕ) (p q : ℕ → Bool) → ((y : ℕ) → y < n → p y ≡ q y) → first key n p ≡ first key n q
  unfolding first
  first_same zero p q h = refl
  first_same (suc n) p q h = ap₂ (λ b r. pick key b n r) (h n (omega arith)) (first_same n p q (λ y l. h y (omega arith)))

  pub firsts_same : (n k : ℕ) (p q : ℕ → Bool) → ((y : ℕ) → y < n → p y ≡ q y) → firsts key n k p ≡ firsts key n k q
  unfolding firsts
  firsts_same n zero p q h = refl
  firsts_same n (suc k) p q h =
      ⊎_elim
      (λ e. firsts-none n (suc k) p e ∙ sym (firsts-none n (suc k) q (sym (first_same n p q h) ∙ e)))
      (λ f.
      firsts-some n k p f.1
      ∙ ap (λ (l : List ℕ). f.0 ∷ l) (firsts_same n k (without f.0 p) (without f.0 q) (λ y l. without_same f.0 p q y (h y l)))
      ∙ sym (firsts-some n k q (sym (first_same n p q h) ∙ f.1)))
      (first_cases n p)

  no_later-cons : (x y : ℕ) (l m : List ℕ) → key y ≤ key x → NoLater key l m → NoLater key (x ∷ l) (y ∷ m)
  no_later-cons x y l m h r = (omega (arith, r.0), at)
    where
      at : (j : ℕ) → j < suc (length l) → key (get_or (y ∷ m) j 0) ≤ key (get_or (x ∷ l) j 0)
      at zero k = h
      at (suc j) k = r.1 j (omega arith)

  module _ (n : ℕ) (ordered : Ordered n key) where
    -- the first of a larger set is the same or earlier, and without them the sets are still one in the other
    rest-within : (p q : ℕ → Bool) (x y : ℕ) → Within n p q → Least n p x → Least n q y → Within n (without x p) (without y q)
    rest-within p q x y h f g z l e =
        without_in y q z (h z l (without_of x p z e)) λ (s : z ≡ y).
        let py : p y ≡ true = rw s at (without_of x p z e) in
        let same : x ≡ y = ordered x y f.0 g.0 (le_antisymm (f.2 y g.0 py) (g.2 x f.0 (h x f.0 f.1))) in
        without_ne x p z e (s ∙ sym same)

    pub firsts_no_later : (k : ℕ) (p q : ℕ → Bool) → Within n p q → NoLater key (firsts key n k p) (firsts key n k q)
    unfolding firsts
    firsts_no_later zero p q h = (zero-le, λ j l. absurd (not-suc-le-zero l))
    firsts_no_later (suc k) p q h =
        ⊎_elim
        (λ e. rw (firsts-none n (suc k) p e) (zero-le, λ j l. absurd (not-suc-le-zero l)))
        (λ f.
        let lp = first_some n p f.1 in
        ⊎_elim
        (λ e. absurd (first-none n q e f.0 lp.0 (h f.0 lp.0 lp.1)))
        (λ g.
        let lq = first_some n q g.1 in
        rw
        (firsts-some n k p f.1, firsts-some n k q g.1)
        (no_later-cons
        f.0
        g.0
        (firsts key n k (without f.0 p))
        (firsts key n k (without g.0 q))
        (lq.2 f.0 lp.0 (h f.0 lp.0 lp.1))
        (firsts_no_later k (without f.0 p) (without g.0 q) (rest-within p q f.0 g.0 h lp lq))))
        (first_cases n q))
        (first_cases n p)
