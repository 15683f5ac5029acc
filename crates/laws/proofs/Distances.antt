-- D: how it is summed, that it is the same both ways and 0 from a point to itself; and the squares that it adds up. Assumes nothing.
use Prim.Native.Nat.{ℕ, zero, suc, ◌+◌, ◌-◌, ◌≤◌, ◌<◌}
use mathlib.Core.Path.{◌≡◌, refl, sym, ap, ◌∙◌}
use mathlib.Core.Bool.{Bool, true, false, cond}
use mathlib.Core.List.{List, [], ◌∷◌}
use native.Mathlib.Nat.{le_of_suc-le-suc, zero-add, suc-add}
use native.Mathlib.Omega.{arith}
use lib.Dec.{ltb}
use lib.IntN.{ℤ, pos, negsuc, neg_ℤ, sub_ℕ, ◌+ℤ◌, ◌-ℤ◌, nat_abs, neg_ℤ-+ℤ, neg_ℤ-neg_ℤ, +ℤ_comm, +ℤ_invr}
use lib.Signed.{mag}
use lib.ListN.{length, take, drop}
use lib.Seq.{take-nil}
use Rattle.rules.specs.Points.{square, dist, coordinates, apart}
use Rattle.rules.specs.Edges.{Symmetric}

-- ---- D

pub dist-nil : (xs : List ℤ) → dist xs [] ≡ 0
unfolding dist
dist-nil [] = refl
dist-nil (x ∷ xs) = refl

-- k pairs and then m pairs
pub dist-add : (k m : ℕ) (xs ys : List ℤ) →
    dist (take (k + m) xs) (take (k + m) ys) ≡ dist (take k xs) (take k ys) + dist (take m (drop k xs)) (take m (drop k ys))
unfolding dist
dist-add zero m xs ys = rw (zero-add, zero-add)
dist-add (suc k) m [] ys = rw (suc-add, take-nil m)
dist-add (suc k) m (x ∷ xs) [] = rw (suc-add, take-nil m, dist-nil (take m (drop k xs)))
dist-add (suc k) m (x ∷ xs) (y ∷ ys) = rw suc-add (omega (arith, dist-add k m xs ys))

-- pairs past the shorter list add nothing
pub dist_cut : (n m : ℕ) (a b : List ℤ) → n ≤ m → (n < length a → n < length b → n ≡ m) → dist (take n a) (take n b) ≡ dist (take m a) (take m b)
unfolding dist
dist_cut zero zero a b h k = refl
dist_cut zero (suc m) [] b h k = refl
dist_cut zero (suc m) (x ∷ a) [] h k = refl
dist_cut zero (suc m) (x ∷ a) (y ∷ b) h k = absurd (none (k (omega arith) (omega arith)))
  where
    none : 0 ≡ suc m → ⊥
    none e = omega arith
dist_cut (suc n) zero a b h k = absurd (none h)
  where
    none : suc n ≤ 0 → ⊥
    none e = omega arith
dist_cut (suc n) (suc m) [] b h k = refl
dist_cut (suc n) (suc m) (x ∷ a) [] h k = refl
dist_cut (suc n) (suc m) (x ∷ a) (y ∷ b) h k =
    ap (λ (s : ℕ). square (x -ℤ y) + s) (dist_cut n m a b (le_of_suc-le-suc h) (λ p q. pred_eq (k (omega arith) (omega arith))))
  where
    pred_eq : suc n ≡ suc m → n ≡ m
    pred_eq e = omega arith

-- ---- whole numbers

-- two numbers of 8 bits are at most 255 apart
abs_cond : (t : Bool) (p q n : ℕ) → suc p ≤ n → q ≤ n → nat_abs (cond t (negsuc p) (pos q)) ≤ n
abs_cond true p q n h k = h
abs_cond false p q n h k = k

abs_sub : (a b n : ℕ) → 0 < n → a ≤ n → b ≤ n → nat_abs (sub_ℕ a b) ≤ n
abs_sub a b n h k l = abs_cond (ltb a b) (b - suc a) (a - b) n (omega arith) (omega arith)

pub gap_le : (x y : ℤ) → mag x < 128 → mag y < 128 → nat_abs (x -ℤ y) ≤ 255
gap_le (pos a) (pos zero) h k = omega arith
gap_le (pos a) (pos (suc b)) h k = abs_sub a (suc b) 255 (omega arith) (omega arith) (omega arith)
gap_le (pos a) (negsuc b) h k = omega arith
gap_le (negsuc a) (pos zero) h k = abs_sub 0 (suc a) 255 (omega arith) (omega arith) (omega arith)
gap_le (negsuc a) (pos (suc b)) h k = omega arith
gap_le (negsuc a) (negsuc b) h k = abs_sub (suc b) (suc a) 255 (omega arith) (omega arith) (omega arith)

abs_neg : (z : ℤ) → nat_abs (neg_ℤ z) ≡ nat_abs z
abs_neg (pos zero) = refl
abs_neg (pos (suc n)) = refl
abs_neg (negsuc n) = refl

pub abs_swap : (x y : ℤ) → nat_abs (y -ℤ x) ≡ nat_abs (x -ℤ y)
abs_swap x y = sym (abs_neg (y -ℤ x)) ∙ ap nat_abs (neg_ℤ-+ℤ y (neg_ℤ x) ∙ ap (λ (z : ℤ). neg_ℤ y +ℤ z) (neg_ℤ-neg_ℤ x) ∙ +ℤ_comm (neg_ℤ y) x)

-- ---- D between a point and itself, and the other way round

pub dist_comm : (a b : List ℤ) → dist a b ≡ dist b a
unfolding dist
dist_comm [] [] = refl
dist_comm [] (y ∷ b) = refl
dist_comm (x ∷ a) [] = refl
dist_comm (x ∷ a) (y ∷ b) = rw (abs_swap y x, dist_comm a b)

pub dist_self : (a : List ℤ) → dist a a ≡ 0
unfolding dist
dist_self [] = refl
dist_self (x ∷ a) = rw (+ℤ_invr x, dist_self a)

-- D between the points of a set is the same both ways
pub apart_symmetric : (d : ℕ) (vectors : List ℤ) → Symmetric (apart d vectors)
unfolding apart
apart_symmetric d vectors u v = dist_comm (coordinates d vectors u) (coordinates d vectors v)
