-- The loop of visits: after i of them the marks, the line and the trail stand for the search's state after i steps. Assumes nothing.
use Prim.Native.Nat.{ℕ, suc, ◌+◌, ◌*◌, ◌%◌, ◌≤◌, ◌<◌}
use native.Mathlib.Omega.{arith}
use native.Mathlib.Numerals.{add-one}
use mathlib.Core.Path.{◌≡◌, refl, sym, ap, ◌∙◌}
use mathlib.Core.Logic.{⊎_elim}
use mathlib.Core.Bool.{Bool, true, false}
use mathlib.Core.Option.{none, some}
use mathlib.Core.List.{List, [], ◌∷◌, ◌++◌, map}
use lib.ListN.{length, get_or, set, drop, length-append, length-set}
use lib.Seq.{drop-cons, set_at, append_snoc}
use lib.Dec.{ltb, leb}
use borrow.Author.Tests.{ltb-true, lt-ltb, ne_eqb}
use Rattle.std.proofs.Math.Bool.{and-true}
use Rattle.rules.specs.Points.{away}
use Rattle.rules.specs.Order.{keyed, on}
use Rattle.rules.specs.Labels.{edge_in}
use Rattle.rules.specs.Search.{State, start, waiting, visit, next, choice, run, search}
use Rattle.laws.proofs.Tests.{and_l, and_r, and_i, count_le, count_same, le_or_lt, never}
use Rattle.laws.proofs.Order.{first_some, firsts_same}
use Rattle.laws.proofs.Visits.{waits-seen, choice_same, visits}
use Rattle.laws.proofs.Search.{visits_room, run-next, run-done, run_sound}
use Rattle.space.specs.declared.question.Asked.{Asked}
use Rattle.search.specs.declared.see.Mark.{Mark}
use Rattle.search.specs.Line.{waits, sees}
use Rattle.search.specs.Seen.{Lined, Visited, goes_on, IsFresh, sought_by, Explored}
use Rattle.search.proofs.Seeing.{few, many, line_seen, line_id}
use Rattle.search.proofs.Visiting.{Holds, visit-holds}
use Rattle.search.proofs.Choosing.{choice-visit, choice_full, choice-done}

-- what is chosen by the marks is the next visit
next-holds : (n : ℕ) (key : ℕ → ℕ) (width : ℕ) (s : State) (marks : List Mark) → Holds n s marks →
    next n key width s ≡ choice n key width (sees marks) (waits marks)
unfolding next
next-holds n key width s marks h = choice_same n key width s.seen (sees marks) (waiting s) (waits marks) h.seen h.waits

start-holds : (n : ℕ) (marks : List Mark) → IsFresh marks → Holds n (start (sees marks)) marks
unfolding start waiting on
start-holds n marks fresh = record { seen = λ y l. refl; waits = λ y l. and-true (sees marks y) ∙ sym (fresh.waiting y) }

-- one more id after the trail t, in front of what the buffer held
extend : (t trail trail' trail₀ : List ℕ) (i x : ℕ) → length t ≡ i → i < length trail₀ → trail ≡ t ++ drop i trail₀ → trail' ≡ set trail i x →
    trail' ≡ t ++ (x ∷ []) ++ drop (i + 1) trail₀
extend t trail trail' trail₀ i x len l w q =
    q ∙ ap (λ l. set l i x) w ∙ rw (add-one, drop-cons trail₀ i 0, append_snoc) (set_at t (get_or trail₀ i 0) (drop (suc i) trail₀) x i len)

-- the edges from x to other ids are those of its row
edge_cell : (table : List ℕ) (n m x y : ℕ) → (y ≡ x → ⊥) → edge_in table n m x y ≡ leb (get_or table (x * n + y) 0) m
unfolding edge_in
edge_cell table n m x y d = rw (ne_eqb x y (λ e. d (sym e)))

-- ---- the loop's invariant

module _ (asked : Asked) (width : ℕ) (marks₀ : List Mark) (trail₀ : List ℕ) where
  abbrev n : ℕ
  n = asked.points.set.n

  abbrev D : ℕ → ℕ
  D = away asked.points.set.d asked.points.set.vectors.now asked.query.now

  abbrev table : List ℕ
  table = asked.table.now

  abbrev m : ℕ
  m = asked.threshold

  small : n ≤ 128
  small = few asked

  -- the state after i visits
  abbrev pub after : ℕ → State
  after i = run n (keyed D) (edge_in table n m) width i (start (sees marks₀))

  pub record Round (marks : List Mark) (line trail : List ℕ) (from i : ℕ) : Type 0 where
    pub tsize : length trail ≡ length trail₀
    pub long : length (after i).trail ≡ i
    pub wrote : trail ≡ (after i).trail ++ drop i trail₀
    pub holds : Holds n (after i) marks
    pub waits_there : from < length line → waits marks (get_or line from 0 % 128) ≡ true

  pub round_start : {line₀ : List ℕ} {from : ℕ} → IsFresh marks₀ → Lined n (keyed D) marks₀ line₀ from → Round marks₀ line₀ trail₀ from 0
  unfolding run start
  round_start {line₀} {from} fresh h = record {
    tsize = refl;
    long = refl;
    wrote = refl;
    holds = start-holds n marks₀ fresh;
    waits_there = λ l. rw (line_id n D small h from l) (fresh.waiting _ ∙ (line_seen n D small h from l).1);
  }

  module _ {marks : List Mark} {line trail : List ℕ} {from i : ℕ} (r : Round marks line trail from i) (lined : Lined n (keyed D) marks line from) where
    -- ---- where the search goes on

    module _ {b : Bool} (is : b ≡ goes_on (length line) from width) (on_go : b ≡ true) where
      go : goes_on (length line) from width ≡ true
      go = sym is ∙ on_go

      waiting-place : from < length line
      waiting-place = ltb-true from (length line) (and_l (ltb from (length line)) (ltb from width) go)

      in_width : from < width
      in_width = ltb-true from width (and_r (ltb from (length line)) (ltb from width) go)

      pub next-is : next n (keyed D) width (after i) ≡ some (get_or line from 0 % 128)
      next-is =
          next-holds n (keyed D) width (after i) marks r.holds
          ∙ choice-visit n D small lined width waiting-place in_width (r.waits_there waiting-place)

      pub next-waits : (get_or line from 0 % 128 < n) × (waits marks (get_or line from 0 % 128) ≡ true)
      next-waits = (rw (line_id n D small lined from waiting-place) (line_seen n D small lined from waiting-place).0, r.waits_there waiting-place)

      -- there is room on the trail
      pub room : i < n
      room =
          let edge = edge_in table n m in
          let sound = run_sound n (keyed D) edge width i (sees marks₀) in
          omega (arith, r.long, visits_room n (keyed D) edge width (after i) sound next-is)

      pub round_step : {marks' : List Mark} {line' trail' : List ℕ} {from' : ℕ} → n ≤ length trail₀ →
          Visited n table m (get_or line from 0 % 128) marks marks' line' from' → trail' ≡ set trail i (get_or line from 0 % 128) →
          Round marks' line' trail' from' (i + 1)
      unfolding visit
      round_step {marks'} {line'} {trail'} {from'} tl v q =
          let x : ℕ = get_or line from 0 % 128 in
          let edge = edge_in table n m in
          let t : after (i + 1) ≡ visit edge (after i) x = ap after (add-one i) ∙ run-next n (keyed D) edge width i (start (sees marks₀)) next-is in
          let fx = first_some (keyed D) n (waiting (after i)) (visits n (keyed D) width (after i) next-is).0 in
          let h : Holds n (visit edge (after i) x) marks' =
          visit-holds
          n
          edge
          v.row
          m
          x
          (after i)
          marks
          marks'
          (omega (arith, next-waits.0, lined.marks_size))
          next-waits.0
          (waits-seen (after i) x fx.1)
          (λ y o. ((run_sound n (keyed D) edge width i (sees marks₀)).0 y o).1)
          (λ y ly d. edge_cell table n m x y d ∙ ap (λ c. leb c m) (sym (v.cells y ly)))
          v.marked
          r.holds in
          record {
            tsize = ap length q ∙ length-set trail i x ∙ r.tsize;
            long = rw t (omega (arith, length-append (after i).trail (x ∷ []), r.long));
            wrote = rw t (extend (after i).trail trail trail' trail₀ i x r.long (omega (arith, room)) r.wrote q);
            holds = rw t h;
            waits_there = v.waits_there;
          }

    -- ---- where it stops

    stop_is : goes_on (length line) from width ≡ false → next n (keyed D) width (after i) ≡ none
    stop_is stop =
        next-holds n (keyed D) width (after i) marks r.holds
        ∙ ⊎_elim
        (λ l. choice-done n D small lined width l)
        (λ l. ⊎_elim
        (λ k. choice_full n D small lined width l k (r.waits_there l))
        (λ k. absurd (never (and_i (ltb from (length line)) (ltb from width) (lt-ltb from (length line) l) (lt-ltb from width k)) stop))
        (le_or_lt width from))
        (le_or_lt (length line) from)

    pub round_end : {b : Bool} → b ≡ goes_on (length line) from width → b ≡ false → Explored n (keyed D) table m width marks₀ trail₀ line trail i
    unfolding search
    round_end is stop =
        let edge = edge_in table n m in
        let in_n : i ≤ n = omega (arith, r.long, (run_sound n (keyed D) edge width i (sees marks₀)).1, count_le n (on (after i).trail)) in
        let t : sought_by n (keyed D) table m width marks₀ ≡ after i = run-done n (keyed D) edge width i n (start (sees marks₀)) in_n (stop_is (sym is ∙ stop)) in
        record {
          walked-is = rw t (sym r.long);
          trail_is = rw t r.wrote;
          seen-is = rw t (many n D small lined ∙ count_same n (sees marks) (after i).seen (λ y l. sym (r.holds.seen y l)));
          line_is = rw t (lined.keys ∙ ap (map (keyed D)) (firsts_same (keyed D) n n (sees marks) (after i).seen (λ y l. sym (r.holds.seen y l))));
        }
