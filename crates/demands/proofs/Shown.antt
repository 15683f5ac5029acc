-- P1 to P10 of the entries themselves: what they return and write on document 01's examples, by the list of `rules` Examples. Assumes nothing.
use Prim.Native.Nat.{ℕ, ◌+◌, ◌*◌, ◌<◌}
use native.Mathlib.Omega.{arith}
use mathlib.Core.Path.{◌≡◌, sym, ap, ◌∙◌}
use mathlib.Core.List.{List, [], ◌∷◌}
use lib.IntN.{ℤ}
use lib.ListN.{get_or, take}
use Rattle.rules.specs.Entries as rules
use Rattle.rules.specs.Entries.{Ask, table_after, counts_of}
use Rattle.rules.specs.Points.{apart}
use Rattle.rules.specs.Examples.{three, tied, four, extreme, twins, low, high, label_in, asked, Gives}
use Rattle.rules.proofs.Examples.{examples}
use Rattle.laws.proofs.Refusals.{after_new}
use Rattle.laws.proofs.Table.{table_at}
use Rattle.search.specs.declared.Counts.{Counts}
use Rattle.std.specs.Prelude.{Ok}
use Rattle.demands.specs.Calls.{DistanceCall, BuildCall, SearchCall}
use Rattle.demands.proofs.Demand2.{searches_by_the_rules}

-- P1 and P2: the builder's table of 0, 3, 5
pub p1_p2 : {table table' : List ℕ} → BuildCall 3 1 three table 0 table' → table' ≡ 65535 ∷ 0 ∷ 48 ∷ 0 ∷ 65535 ∷ 0 ∷ 32 ∷ 0 ∷ 65535 ∷ []
unfolding table_after
p1_p2 h = h.table-holds ∙ after_new (sym h.answers) _ _ ∙ examples.p1_p2

-- a built cell is the label that the examples speak of
cell_at : {n d : ℕ} {vectors : List ℤ} {table table' : List ℕ} → BuildCall n d vectors table 0 table' → (u v : ℕ) → u < n → v < n
    → get_or table' (u * n + v) 0 ≡ label_in n d vectors u v
unfolding table_after
cell_at {n} {d} {vectors} h u v lu lv =
    ap (λ (t : List ℕ). get_or t (u * n + v) 0) (h.table-holds ∙ after_new (sym h.answers) _ _) ∙ table_at (apart d vectors) n u v lu lv

-- P5: equal distances do not stand between
pub p5 : {table table' : List ℕ} → BuildCall 3 2 tied table 0 table' → (get_or table' 1 0 ≡ 0) × (get_or table' 2 0 ≡ 0)
p5 h = (cell_at h 0 1 (omega arith) (omega arith) ∙ examples.p5.0, cell_at h 0 2 (omega arith) (omega arith) ∙ examples.p5.1)

-- P6 and P7: from 0 to 2 it is 45, from 0 to 3 it is 0
pub p6-p7 : {table table' : List ℕ} → BuildCall 4 2 four table 0 table' → (get_or table' 2 0 ≡ 45) × (get_or table' 3 0 ≡ 0)
p6-p7 h = (cell_at h 0 2 (omega arith) (omega arith) ∙ examples.p6, cell_at h 0 3 (omega arith) (omega arith) ∙ examples.p7.0)

-- P8: the largest label
pub p8 : {table table' : List ℕ} → BuildCall 3 64 extreme table 0 table' → get_or table' 1 0 ≡ 32624
p8 h = cell_at h 0 1 (omega arith) (omega arith) ∙ examples.p8

-- P10: two identical points
pub p10 : {table table' : List ℕ} → BuildCall 2 1 twins table 0 table' → (get_or table' 1 0 ≡ 0) × (get_or table' 2 0 ≡ 0)
p10 h = (cell_at h 0 1 (omega arith) (omega arith) ∙ examples.p10.0, cell_at h 1 0 (omega arith) (omega arith) ∙ examples.p10.1)

-- what a search returns and writes where the rules say what it gives
pub record Shows (c : Counts) (found seen walked : ℕ) (ids distances trail ids' distances' trail' : List ℕ) : Type 0 where
  pub found-is : c.found ≡ found
  pub seen-is : c.seen ≡ seen
  pub walked-is : c.walked ≡ walked
  pub ids_are : take c.found ids' ≡ ids
  pub distances_are : take c.found distances' ≡ distances
  pub trail_is : take c.walked trail' ≡ trail

shows : {a : Ask} {found seen walked : ℕ} {near far way ids distances trail ids' distances' trail' : List ℕ} {c : Counts}
    → Gives a found seen walked near far way
    → SearchCall a ids distances trail (Ok c) ids' distances' trail'
    → Shows c found seen walked near far way ids' distances' trail'
unfolding counts_of
shows g h =
    let s = searches_by_the_rules h in
    record {
      found-is = s.found ∙ ap (λ (k : rules.Counts). k.found) g.counts;
      seen-is = s.seen ∙ ap (λ (k : rules.Counts). k.seen) g.counts;
      walked-is = s.walked ∙ ap (λ (k : rules.Counts). k.walked) g.counts;
      ids_are = s.ids_are ∙ g.ids_are;
      distances_are = s.distances_are ∙ g.distances_are;
      trail_is = s.trail_is ∙ g.trail_is;
    }

-- P3: ask 0
pub p3 : {c : Counts} {ids distances trail ids' distances' trail' : List ℕ}
    → SearchCall (asked 1 1) ids distances trail (Ok c) ids' distances' trail'
    → Shows c 1 3 2 (1 ∷ []) (1 ∷ []) (0 ∷ 1 ∷ []) ids' distances' trail'
p3 h = shows examples.p3 h

-- P4: ask 1
pub p4 : {c : Counts} {ids distances trail ids' distances' trail' : List ℕ}
    → SearchCall (asked 3 2) ids distances trail (Ok c) ids' distances' trail'
    → Shows c 2 3 3 (1 ∷ 2 ∷ []) (1 ∷ 1 ∷ []) (0 ∷ 1 ∷ 2 ∷ []) ids' distances' trail'
p4 h = shows examples.p4 h

-- P9: D of 64 coordinates of -128 and 64 of 127
pub p9 : {r : ℕ} → DistanceCall low high r → r ≡ 4161600
p9 h = h.answers ∙ examples.p9
