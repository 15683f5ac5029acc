-- Demand 3, of what the search's entry returns and writes. Assumes nothing.
use Prim.Native.Nat.{ℕ, ◌≤◌, ◌<◌, min}
use native.Mathlib.Omega.{arith}
use Rattle.std.specs.Prelude.{Ok}
use mathlib.Core.Path.{◌≡◌, refl, sym, ap, ◌∙◌}
use mathlib.Core.List.{List, ◌++◌, map}
use lib.Dec.{eqb}
use lib.ListN.{get_or}
use borrow.Author.Tests.{eq-eqb}
use Rattle.rules.specs.Points.{apart}
use Rattle.rules.specs.Order.{keyed}
use Rattle.rules.specs.Edges.{Closing}
use Rattle.rules.specs.Labels.{table_of}
use Rattle.rules.specs.Entries.{Ask, farness, order_of, edges_of, searched, near_ids, near_distances}
use Rattle.laws.proofs.Demand3.{wider, exact}
use Rattle.laws.proofs.Tests.{count_all}
use Rattle.laws.proofs.Keyed.{keyed_ordered, keyed_le}
use Rattle.laws.proofs.Distances.{apart_symmetric}
use Rattle.laws.proofs.Table.{own_closing}
use Rattle.search.specs.declared.Counts.{Counts}
use Rattle.demands.specs.Calls.{SearchCall}
use Rattle.demands.specs.Demand3.{widened, Wider, Exact}
use Rattle.demands.proofs.Given.{gave_search, ids_begin, distances_begin, trail_begins, id_at, distance-at, id_small}

-- ---- two searches that differ only in width

pub narrow_and_wide : (a : Ask) (wide : ℕ)
    → a.width ≤ wide
    → {ids distances trail ids' distances' trail' : List ℕ} {c : Counts}
    → {ids₂ distances₂ trail₂ ids₂' distances₂' trail₂' : List ℕ} {c₂ : Counts}
    → SearchCall a ids distances trail (Ok c) ids' distances' trail'
    → SearchCall (widened a wide) ids₂ distances₂ trail₂ (Ok c₂) ids₂' distances₂' trail₂'
    → Wider c c₂ ids' distances' trail' ids₂' distances₂' trail₂'
unfolding near_ids searched order_of edges_of farness
narrow_and_wide a wide le {c = c} {c₂ = c₂} h h₂ =
    let b = widened a wide in
    let g = gave_search h in
    let g₂ = gave_search h₂ in
    let D = farness a in
    let w = wider a.n (keyed D) (keyed_ordered D a.n g.few-points) (edges_of a) (eqb a.start) a.k a.width wide le in
    record {
      trail_begins = (w.rest, trail_begins g₂ ∙ w.trail ∙ ap (λ (t : List ℕ). t ++ w.rest) (sym (trail_begins g)));
      at-least-as-many = omega (arith, w.more, g.found, g₂.found);
      same_or_earlier = λ j l.
          let l₂ : j < c₂.found = omega (arith, w.more, g.found, g₂.found) in
          rw
          (id_at g j l, distance-at g j l, id_at g₂ j l₂, distance-at g₂ j l₂)
          ((keyed_le D (get_or (near_ids b) j 0) (get_or (near_ids a) j 0) (id_small g₂ j l₂) (id_small g j l)).0 (w.places j (omega (arith, g.found))));
    }

-- ---- full width on the set's own table

pub exactly_the_nearest : (a : Ask)
    → a.table ≡ table_of (apart a.d a.vectors) a.n
    → a.n ≤ a.width
    → {ids distances trail ids' distances' trail' : List ℕ} {c : Counts}
    → SearchCall a ids distances trail (Ok c) ids' distances' trail'
    → Exact a c ids' distances'
unfolding near_ids near_distances searched order_of edges_of farness
exactly_the_nearest a own wide h =
    let g = gave_search h in
    let D = farness a in
    let δ = apart a.d a.vectors in
    let symm = apart_symmetric a.d a.vectors in
    let closing : Closing δ a.n (edges_of a) = rw own (own_closing δ a.n symm a.threshold) in
    let ordered = keyed_ordered D a.n g.few-points in
    let seen = eq-eqb a.start a.start refl in
    let x = exact a.n (keyed D) ordered (edges_of a) (eqb a.start) a.k δ symm a.width wide a.start g.start_in seen closing in
    let t = ids_begin g in
    record {
      many = g.found ∙ x.nearest.many ∙ ap (min a.k) (count_all a.n);
      nearest = rw t x.nearest;
      the_first = t ∙ x.answers;
      their_distances = distances_begin g ∙ ap (map (farness a)) (sym t);
    }
