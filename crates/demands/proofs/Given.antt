-- What an answer that is no refusal tells: its values are the rules', and so are the beginnings of the lent buffers. The demands start from here. Assumes nothing.
use Prim.Native.Nat.{ℕ, ◌≤◌, ◌<◌}
use native.Mathlib.Omega.{arith}
use Rattle.std.specs.Prelude.{Ok}
use mathlib.Core.Path.{◌≡◌, sym, ap, ◌∙◌}
use mathlib.Core.List.{List}
use lib.IntN.{ℤ}
use lib.ListN.{length, get_or, take, drop, length-map, get_or-append}
use lib.Seq.{take_at}
use Rattle.rules.specs.Outcome.{over}
use Rattle.rules.specs.Order.{count}
use Rattle.rules.specs.Search.{answer}
use Rattle.rules.specs.Sheet.{Contents, sheet}
use Rattle.rules.specs.Refusals.{walk_refusal}
use Rattle.rules.specs.Entries as rules
use Rattle.rules.specs.Entries.{Ask, farness, order_of, searched, near_ids, near_distances, counts_of, asked_refusal, refusal_of, search_answer, ids_after, distances_after, trail_after, end_of, walk_answer, write_answer, output_after}
use Rattle.laws.proofs.Line.{get_d_map}
use Rattle.laws.proofs.Refusals.{after_new, outcome-none, outcome_value}
use Rattle.search.specs.declared.Counts.{Counts}
use Rattle.search.proofs.Finish.{search_ok}
use Rattle.search.proofs.OffLine.{small_ids}
use Rattle.walk.specs.declared.answers.End.{End}
use Rattle.walk.specs.Answers.{end_in}
use Rattle.demands.specs.Calls.{SearchCall, WalkCall, WriteCall}

-- ---- a buffer that something was put over

-- it begins with that
pub over-take : (l old new : List ℕ) (m : ℕ) → m ≡ length l → new ≡ over l old → take m new ≡ l
unfolding over
over-take l old new m e q = rw q (take_at l (drop (length l) old) m (sym e))

over-at : (l old new : List ℕ) (j : ℕ) → j < length l → new ≡ over l old → get_or new j 0 ≡ get_or l j 0
unfolding over
over-at l old new j h q = rw q (get_or-append l (drop (length l) old) 0 j h)

-- ---- a search

-- the counts are those of the rules, and ids, distances and trail are put over the buffers
pub record Gave (a : Ask) (c : Counts) (ids distances trail ids' distances' trail' : List ℕ) : Type 0 where
  pub few-points : a.n ≤ 128
  pub start_in : a.start < a.n
  pub found : c.found ≡ length (near_ids a)
  pub seen : c.seen ≡ count a.n (searched a).seen
  pub walked : c.walked ≡ length (searched a).trail
  pub ids_are : ids' ≡ over (near_ids a) ids
  pub distances_are : distances' ≡ over (near_distances a) distances
  pub trail_is : trail' ≡ over (searched a).trail trail

pub gave_search : {a : Ask} {c : Counts} {ids distances trail ids' distances' trail' : List ℕ}
    → SearchCall a ids distances trail (Ok c) ids' distances' trail'
    → Gave a c ids distances trail ids' distances' trail'
unfolding search_answer ids_after distances_after trail_after refusal_of asked_refusal counts_of
gave_search {a} {c} {ids} {distances} {trail} h =
    let none = outcome-none (refusal_of a ids distances trail) _ _ (sym h.answers) in
    let is = sym (outcome_value (refusal_of a ids distances trail) _ _ (sym h.answers)) in
    let ok = search_ok _ _ _ _ _ _ _ _ _ _ _ _ none in
    record {
      few-points = ok.starts.asked.few-points;
      start_in = ok.starts.start_in;
      found = ap (λ (k : rules.Counts). k.found) is;
      seen = ap (λ (k : rules.Counts). k.seen) is;
      walked = ap (λ (k : rules.Counts). k.walked) is;
      ids_are = h.ids_hold ∙ after_new none _ _;
      distances_are = h.distances_hold ∙ after_new none _ _;
      trail_is = h.trail-holds ∙ after_new none _ _;
    }

module _ {a : Ask} {c : Counts} {ids distances trail ids' distances' trail' : List ℕ} (g : Gave a c ids distances trail ids' distances' trail') where
  -- the beginnings of the three buffers
  pub ids_begin : take c.found ids' ≡ near_ids a
  ids_begin = over-take (near_ids a) ids ids' c.found g.found g.ids_are

  pub distances_begin : take c.found distances' ≡ near_distances a
  unfolding near_distances
  distances_begin =
      over-take (near_distances a) distances distances' c.found (g.found ∙ sym (length-map (near_ids a) (farness a))) g.distances_are

  pub trail_begins : take c.walked trail' ≡ (searched a).trail
  trail_begins = over-take (searched a).trail trail trail' c.walked g.walked g.trail_is

  -- the answer at a place: its id, below 128, and its squared distance
  pub id_at : (j : ℕ) → j < c.found → get_or ids' j 0 ≡ get_or (near_ids a) j 0
  id_at j l = over-at (near_ids a) ids ids' j (omega (arith, g.found)) g.ids_are

  pub distance-at : (j : ℕ) → j < c.found → get_or distances' j 0 ≡ farness a (get_or (near_ids a) j 0)
  unfolding near_distances
  distance-at j l =
      over-at (near_distances a) distances distances' j (omega (arith, g.found, length-map (near_ids a) (farness a))) g.distances_are
      ∙ get_d_map (farness a) (near_ids a) j (omega (arith, g.found))

  pub id_small : (j : ℕ) → j < c.found → get_or (near_ids a) j 0 < 128
  unfolding near_ids answer order_of
  id_small j l = small_ids (farness a) a.n a.k g.few-points (searched a).seen j (omega (arith, g.found))

-- ---- a walk and a writer

module _ {n d threshold start : ℕ} {vectors query : List ℤ} {table : List ℕ} {e : End} where
  pub walk_taken : WalkCall n d vectors table query threshold start (Ok e)
      → walk_refusal n d (length vectors) (length table) (length query) start threshold ≡ 0
  unfolding walk_answer
  walk_taken h = outcome-none _ _ _ (sym h.answers)

  pub gave_end : WalkCall n d vectors table query threshold start (Ok e) → end_in e ≡ end_of n d vectors table query threshold start
  unfolding walk_answer
  gave_end h = sym (outcome_value _ _ _ (sym h.answers))

module _ {k : Contents} {output output' : List ℕ} {l : ℕ} where
  pub gave_length : WriteCall k output (Ok l) output' → l ≡ length (sheet k)
  unfolding write_answer
  gave_length h = sym (outcome_value _ _ _ (sym h.answers))

  pub gave_sheet : WriteCall k output (Ok l) output' → output' ≡ over (sheet k) output
  unfolding write_answer output_after
  gave_sheet h = h.output_holds ∙ after_new (outcome-none _ _ _ (sym h.answers)) _ _
