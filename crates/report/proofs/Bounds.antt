-- How long the numbers, ids and distances of a sheet can be in a line. Assumes nothing.
use Prim.Native.Nat.{ℕ, ◌-◌, ◌*◌, ◌^◌, ◌≤◌, ◌<◌}
use native.Mathlib.Nat.{lt_of_lt_of_le, mul-le-mul}
use native.Mathlib.Omega.{arith}
use mathlib.Core.Path.{◌≡◌}
use mathlib.Core.Bool.{true}
use mathlib.Core.List.{List, [], ◌∷◌, ◌++◌, map}
use lib.IntN.{ℤ, pos, negsuc, ◌-ℤ◌}
use lib.Signed.{mag}
use lib.ListN.{length, take, drop, length-append}
use lib.Pow.{pow_mono}
use borrow.Author.Tests.{ltb-true}
use Rattle.rules.specs.Points.{square, dist, coordinates, away}
use Rattle.rules.specs.Bits.{fits, all_fit, values, unpacked}
use Rattle.rules.specs.Order.{on}
use Rattle.rules.specs.Sheet.{points, coords, width, vectors_of, ask_place, ask_query}
use Rattle.rules.specs.Entries.{farness}
use Rattle.rules.specs.Lines.{part, parts, pairs}
use Rattle.rules.specs.Program.{ask_of}
use Rattle.laws.proofs.Tests.{and_l, and_r}
use Rattle.laws.proofs.Values.{length-values, values_fit, fit_take, fit_drop}
use Rattle.laws.proofs.Fields.{coords-small, width_small}
use Rattle.laws.proofs.Distances.{gap_le}
use Rattle.laws.proofs.Nearest.{on_head, on_tail}
use Rattle.lines.proofs.Digits.{length-below, length_part}

-- ---- numbers

pub part-short : (x : ℕ) → x < 1000 → length (part x) ≤ 4
part-short x l = omega (arith, length_part x, length-below 2 x l)

part-long : (x : ℕ) → x < 10000000 → length (part x) ≤ 8
part-long x l = omega (arith, length_part x, length-below 6 x l)

-- ---- lists of ids

pub parts_most : (l : List ℕ) → ((y : ℕ) → on l y ≡ true → y < 1000) → length (parts l) ≤ 4 * length l
unfolding parts
parts_most [] h = omega arith
parts_most (x ∷ l) h =
    omega (arith, length-append (part x) (parts l), part-short x (h x (on_head x l)), parts_most l (λ y o. h y (on_tail x l y o)))

pub pairs_most : (f : ℕ → ℕ)
    → ((y : ℕ) → f y < 10000000)
    → (l : List ℕ)
    → ((y : ℕ) → on l y ≡ true → y < 1000)
    → length (pairs l (map f l)) ≤ 12 * length l
unfolding pairs
pairs_most f near [] h = omega arith
pairs_most f near (x ∷ l) h =
    omega (
      arith,
      length-append (part x) (part (f x) ++ pairs l (map f l)),
      length-append (part (f x)) (pairs l (map f l)),
      part-short x (h x (on_head x l)),
      part-long (f x) (near x),
      pairs_most f near l (λ y o. h y (on_tail x l y o)),
    )

-- ---- D

fits-mag : (c : ℕ) (z : ℤ) → c ≤ 8 → fits c z ≡ true → mag z < 128
unfolding fits
fits-mag c (pos n) l f = lt_of_lt_of_le (ltb-true n (2 ^ (c - 1)) f) (pow_mono {j = 7} (omega arith))
fits-mag c (negsuc n) l f = lt_of_lt_of_le (ltb-true n (2 ^ (c - 1)) f) (pow_mono {j = 7} (omega arith))

square_most : (x y : ℤ) → mag x < 128 → mag y < 128 → square (x -ℤ y) ≤ 65025
square_most x y h k = mul-le-mul (gap_le x y h k) (gap_le x y h k)

dist_most : (c : ℕ) → c ≤ 8 → (xs ys : List ℤ) → all_fit c xs ≡ true → all_fit c ys ≡ true → dist xs ys ≤ 65025 * length ys
unfolding dist all_fit
dist_most c l [] ys f g = omega arith
dist_most c l (x ∷ xs) [] f g = omega arith
dist_most c l (x ∷ xs) (y ∷ ys) f g =
    omega (
      arith,
      square_most x y (fits-mag c x l (and_l (fits c x) (all_fit c xs) f)) (fits-mag c y l (and_l (fits c y) (all_fit c ys) g)),
      dist_most c l xs ys (and_r (fits c x) (all_fit c xs) f) (and_r (fits c y) (all_fit c ys) g),
    )

-- a query of a sheet is at most document 01's limit away from a point
pub far_most : (ys table : List ℕ) (i y : ℕ) → farness (ask_of ys table i) y < 10000000
unfolding farness ask_of away coordinates vectors_of ask_query
far_most ys table i y =
    let w = width_small ys in
    let bs = drop 36 (drop (ask_place ys i) (unpacked ys)) in
    let vs = values (width ys) (points ys * coords ys) (drop 24 (unpacked ys)) in
    let f = values_fit (width ys) w.0 (points ys * coords ys) (drop 24 (unpacked ys)) in
    let g = values_fit (width ys) w.0 (coords ys) bs in
    let point = drop (y * coords ys) vs in
    let h = fit_take (width ys) (coords ys) point (fit_drop (width ys) (y * coords ys) vs f) in
    let m = dist_most (width ys) w.1 (take (coords ys) point) (values (width ys) (coords ys) bs) h g in
    omega (arith, m, length-values (width ys) (coords ys) bs, coords-small ys)
