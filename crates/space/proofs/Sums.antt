-- How blocks of pairs add up to D. Assumes nothing.
use Prim.Native.Nat.{ℕ, ◌+◌, ◌*◌, ◌≤◌, ◌<◌}
use mathlib.Core.Path.{◌≡◌, refl}
use mathlib.Core.List.{List}
use native.Mathlib.Nat.{mul-le-mul, zero-add}
use native.Mathlib.Omega.{arith}
use lib.IntN.{ℤ, ◌-ℤ◌, nat_abs}
use lib.ListN.{length, get_or}
use lib.Seq.{drop-drop, drop-cons}
use Rattle.rules.specs.Points.{dist}
use Rattle.laws.proofs.Distances.{dist-add}
use Rattle.space.specs.Pairs.{Pairs}

pub pairs-none : (a b : List ℤ) → Pairs a b 0 0 0
unfolding dist
pairs-none a b = record { is = refl; small = omega arith }

-- k pairs from i on and then m pairs
pub pairs-add : {a b : List ℤ} {i k m r s : ℕ} → Pairs a b i k r → Pairs a b (i + k) m s → Pairs a b i (k + m) (r + s)
pairs-add {a} {b} {i} {k} {m} {r} {s} p q = record {
  is = rw (dist-add k m, drop-drop k i a, drop-drop k i b) (omega (arith, p.is, q.is));
  small = omega (arith, p.small, q.small);
}

pub pairs_more : {a b : List ℤ} {k m r s : ℕ} → Pairs a b 0 k r → Pairs a b k m s → Pairs a b 0 (k + m) (r + s)
pairs_more {k = k} p q = pairs-add p (rw (zero-add k) q)

pub pairs_is : {a b : List ℤ} {i k r k' r' : ℕ} → Pairs a b i k r → k' ≡ k → r' ≡ r → Pairs a b i k' r'
pairs_is p e f = rw (e, f) p

pub square_le : (g : ℕ) → g ≤ 255 → g * g ≤ 65025
square_le g h = mul-le-mul h h

-- the pair at i, whose coordinates are g apart
pub pairs_one : (d : ℤ) (i : ℕ) (a b : List ℤ) (x y : ℤ) {g : ℕ} → i < length a → i < length b → x ≡ get_or a i d → y ≡ get_or b i d →
    g ≡ nat_abs (x -ℤ y) → g ≤ 255 → Pairs a b i 1 (g * g)
unfolding dist
pairs_one d i a b x y h k p q e l = record {
  is = rw (drop-cons a i d h, drop-cons b i d k, e, p, q) (omega arith);
  small = square_le _ l;
}
