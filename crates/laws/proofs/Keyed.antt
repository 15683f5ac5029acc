-- The key D × 128 + id: it tells ids below 128 apart, and its order is that of D and then of the id. Assumes nothing.
use Prim.Native.Nat.{ℕ, ◌+◌, ◌*◌, ◌/◌, ◌%◌, ◌≤◌, ◌<◌}
use native.Mathlib.Nat.{eq-or-lt_of_le}
use native.Mathlib.Omega.{arith}
use mathlib.Core.Path.{◌≡◌}
use mathlib.Core.Logic.{◌↔◌, ◌⊎◌, inl, inr, ⊎_elim}
use mathlib.Core.Bool.{◌&&◌, ◌||◌}
use lib.Dec.{ltb, eqb}
use borrow.Author.Tests.{ltb-true, lt-ltb, eqb-true, eq-eqb}
use Rattle.rules.specs.Order.{Ordered, keyed, earlier}
use Rattle.laws.proofs.Tests.{same, and_l, and_r, and_i, or_l, or_r, or_cases}

pub keyed_ordered : (D : ℕ → ℕ) (n : ℕ) → n ≤ 128 → Ordered n (keyed D)
unfolding keyed
keyed_ordered D n h x y lx ly e = omega arith

pub keyed_le : (D : ℕ → ℕ) (x y : ℕ) → x < 128 → y < 128 → (keyed D x ≤ keyed D y) ↔ ((D x < D y) ⊎ ((D x ≡ D y) × (x ≤ y)))
unfolding keyed
keyed_le D x y lx ly = (
  λ h. let le : D x ≤ D y = omega arith in ⊎_elim (λ e. inr (e, omega arith)) (λ l. inl l) (eq-or-lt_of_le le),
  ⊎_elim (λ l. omega arith) (λ e. omega arith),
)

-- the number says what the words say: smaller D first, and at equal D the lower id
pub keyed-earlier : (D : ℕ → ℕ) (x y : ℕ) → x < 128 → y < 128 → ltb (keyed D x) (keyed D y) ≡ earlier D x y
unfolding keyed earlier
keyed-earlier D x y lx ly =
    same
    (ltb (D x * 128 + x) (D y * 128 + y))
    (ltb (D x) (D y) || (eqb (D x) (D y) && ltb x y))
    (λ t.
    let h : D x * 128 + x < D y * 128 + y = ltb-true _ _ t in
    let le : D x ≤ D y = omega arith in
    ⊎_elim
    (λ e. or_r (ltb (D x) (D y)) _ (and_i (eqb (D x) (D y)) (ltb x y) (eq-eqb (D x) (D y) e) (lt-ltb x y (omega arith))))
    (λ l. or_l (ltb (D x) (D y)) _ (lt-ltb (D x) (D y) l))
    (eq-or-lt_of_le le))
    (λ t.
    ⊎_elim
    (λ l. let h : D x < D y = ltb-true _ _ l in lt-ltb (D x * 128 + x) (D y * 128 + y) (omega arith))
    (λ b.
    let e : D x ≡ D y = eqb-true (D x) (D y) (and_l (eqb (D x) (D y)) (ltb x y) b) in
    let l : x < y = ltb-true x y (and_r (eqb (D x) (D y)) (ltb x y) b) in
    lt-ltb (D x * 128 + x) (D y * 128 + y) (omega arith))
    (or_cases (ltb (D x) (D y)) (eqb (D x) (D y) && ltb x y) t))

-- the id and the D of a key
pub keyed_id : (D : ℕ → ℕ) (x : ℕ) → x < 128 → keyed D x % 128 ≡ x
unfolding keyed
keyed_id D x l = omega arith

pub keyed_D : (D : ℕ → ℕ) (x : ℕ) → x < 128 → keyed D x / 128 ≡ D x
unfolding keyed
keyed_D D x l = omega arith
