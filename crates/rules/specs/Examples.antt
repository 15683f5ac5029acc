-- Document 01, "Sheet room examples", those marked P, and some beside them. `proofs/Examples` proves the list, and `printed_example`.
use Rattle.std.specs.Prelude.{ℕ, ◌≡◌, Bool, true, false, List, [], ◌∷◌, ◌++◌, ℤ, pos, negsuc, replicate}
use Rattle.rules.specs.Points.{dist, apart}
use Rattle.rules.specs.Edges.{between, direct}
use Rattle.rules.specs.Labels.{cell, table_of}
use Rattle.rules.specs.Entries.{Ask, ask, searched, near_ids, near_distances, counts_of}

-- ---- the sets

-- 0, 3, 5 in one coordinate
abbrev pub three : List ℤ
three = pos 0 ∷ pos 3 ∷ pos 5 ∷ []

-- (0,0), (5,0), (4,3)
abbrev pub tied : List ℤ
tied = pos 0 ∷ pos 0 ∷ pos 5 ∷ pos 0 ∷ pos 4 ∷ pos 3 ∷ []

-- (0,0), (10,0), (8,9), (-2,13)
abbrev pub four : List ℤ
four = pos 0 ∷ pos 0 ∷ pos 10 ∷ pos 0 ∷ pos 8 ∷ pos 9 ∷ negsuc 1 ∷ pos 13 ∷ []

-- 64 coordinates: u all -128, v all 127, w as v with one coordinate 126
abbrev pub low : List ℤ
low = replicate 64 (negsuc 127)

abbrev pub high : List ℤ
high = replicate 64 (pos 127)

abbrev pub extreme : List ℤ
extreme = low ++ (high ++ (pos 126 ∷ replicate 63 (pos 127)))

-- two identical points
abbrev pub twins : List ℤ
twins = pos 7 ∷ pos 7 ∷ []

-- (0,0), (0,3), (6,-2), (10,0): two points lead from 0 to 3, and the one nearest to 3 is not the one nearest to 0
abbrev pub aside : List ℤ
aside = pos 0 ∷ pos 0 ∷ pos 0 ∷ pos 3 ∷ pos 6 ∷ negsuc 1 ∷ pos 10 ∷ pos 0 ∷ []

-- the edge from u to v is direct, or not, and r stands between u and v, or not, in a set of n points of d coordinates
abbrev pub direct_in : ℕ → ℕ → List ℤ → ℕ → ℕ → Bool
direct_in n d vectors u v = direct (apart d vectors) n u v

abbrev pub between_in : ℕ → List ℤ → ℕ → ℕ → ℕ → Bool
between_in d vectors u v r = between (apart d vectors) u v r

-- the label from u to v of a set of n points of d coordinates
abbrev pub label_in : ℕ → ℕ → List ℤ → ℕ → ℕ → ℕ
label_in n d vectors u v = cell (apart d vectors) n u v

-- an ask on the first set's own table, with the query 4, from start 0 at threshold 0
abbrev pub asked : ℕ → ℕ → Ask
asked width k = ask 3 1 three (table_of (apart 1 three) 3) (pos 4 ∷ []) 0 0 width k

-- what an ask gives: its counts, ids, squared distances and trail
pub record Gives (a : Ask) (found seen walked : ℕ) (ids distances trail : List ℕ) : Type 0 where
  pub counts : counts_of a ≡ record { found = found; seen = seen; walked = walked }
  pub ids_are : near_ids a ≡ ids
  pub distances_are : near_distances a ≡ distances
  pub trail_is : (searched a).trail ≡ trail

-- ---- the list

pub record Examples : Type 0 where
  -- set 0, 3, 5: label from 0 to 2 is 48 (P1), from 2 to 0 is 32 (P2); every other edge is 0
  pub p1_p2 : table_of (apart 1 three) 3 ≡ 65535 ∷ 0 ∷ 48 ∷ 0 ∷ 65535 ∷ 0 ∷ 32 ∷ 0 ∷ 65535 ∷ []
  -- ask 0: width 1 with k 1
  pub p3 : Gives (asked 1 1) 1 3 2 (1 ∷ []) (1 ∷ []) (0 ∷ 1 ∷ [])
  -- ask 1: width 3 with k 2
  pub p4 : Gives (asked 3 2) 2 3 3 (1 ∷ 2 ∷ []) (1 ∷ 1 ∷ []) (0 ∷ 1 ∷ 2 ∷ [])
  -- from point 0 both labels are 0, and both edges direct ..
  pub p5 : (label_in 3 2 tied 0 1 ≡ 0) × (label_in 3 2 tied 0 2 ≡ 0) × (direct_in 3 2 tied 0 1 ≡ true) × (direct_in 3 2 tied 0 2 ≡ true)
  -- .. since equal distances do not stand between
  pub p5_ties : (between_in 2 tied 0 1 2 ≡ false) × (between_in 2 tied 0 2 1 ≡ false)
  -- label from 0 to 2 is 45
  pub p6 : label_in 4 2 four 0 2 ≡ 45
  -- from 0 to 3 it is 0, since point 2, which stands between, is not direct from 0
  pub p7 : (label_in 4 2 four 0 3 ≡ 0) × (direct_in 4 2 four 0 3 ≡ true) × (between_in 2 four 0 3 2 ≡ true) × (direct_in 4 2 four 0 2 ≡ false)
  -- label from u to v is 32,624, the largest possible
  pub p8 : label_in 3 64 extreme 0 1 ≡ 32624
  -- D of that u and v is 4,161,600
  pub p9 : dist low high ≡ 4161600
  -- two identical points: both labels 0
  pub p10 : (label_in 2 1 twins 0 1 ≡ 0) × (label_in 2 1 twins 1 0 ≡ 0)
  -- beside the ten: the label is worked from the direct point nearest to v, and not from the one nearest to u
  pub nearest_to_v : label_in 4 2 aside 0 3 ≡ 88
  -- beside the ten: the ball about v is open too, so that the edges to point 0 of P5's set are direct
  pub open_at_v : (between_in 2 tied 1 0 2 ≡ false) × (between_in 2 tied 2 0 1 ≡ false) × (direct_in 3 2 tied 1 0 ≡ true) × (direct_in 3 2 tied 2 0 ≡ true)
  -- beside the ten: a lent table is taken as it is, and an edge goes one way
  pub one_way : Gives (ask 3 1 three (65535 ∷ 0 ∷ 9 ∷ 9 ∷ 65535 ∷ 9 ∷ 9 ∷ 9 ∷ 65535 ∷ []) (pos 4 ∷ []) 1 0 3 3) 1 1 1 (1 ∷ []) (1 ∷ []) (1 ∷ [])
