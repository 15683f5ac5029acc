-- Document 01, "What is built": "Points have ids from 0 in the order of the lent vectors. .. A point's coordinates are handed back as that part of
-- the lent vectors, without a copy. .. D(p,q) is the sum of squared coordinate differences."
use Rattle.std.specs.Prelude.{ℕ, ◌+◌, ◌*◌, List, [], ◌∷◌, ℤ, ◌-ℤ◌, nat_abs, take, drop}

-- the square of a whole number, which is never negative
abbrev pub square : ℤ → ℕ
square z = nat_abs z * nat_abs z

-- D of two points. Of lists that differ in length, which no set has, the pairs end with the shorter one.
unfoldable pub dist : List ℤ → List ℤ → ℕ
dist [] ys = 0
dist (x ∷ xs) [] = 0
dist (x ∷ xs) (y ∷ ys) = square (x -ℤ y) + dist xs ys

-- the coordinates of one point: d of them, after those of the points before it
unfoldable pub coordinates : ℕ → List ℤ → ℕ → List ℤ
coordinates d vectors id = take d (drop (id * d) vectors)

-- D between the points of a set, and from a query to them
unfoldable pub apart : ℕ → List ℤ → ℕ → ℕ → ℕ
apart d vectors u v = dist (coordinates d vectors u) (coordinates d vectors v)

unfoldable pub away : ℕ → List ℤ → List ℤ → ℕ → ℕ
away d vectors query id = dist (coordinates d vectors id) query
