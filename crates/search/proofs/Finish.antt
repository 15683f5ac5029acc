-- From the lent input to what the entry hands back: the facts of an ask that is not refused, and what is answered and left. Assumes nothing.
use Prim.Native.Nat.{ℕ, ◌≤◌, min}
use mathlib.Core.Path.{◌≡◌, refl, sym, ap, ◌∙◌}
use mathlib.Core.Logic.{◌≢◌}
use mathlib.Core.Bool.{Bool}
use mathlib.Core.List.{List, [], ◌∷◌, ◌++◌, map}
use lib.Dec.{eqb, ltb}
use lib.ListN.{length, take, drop}
use borrow.Author.Tests.{ltb-false}
use Rattle.rules.specs.Outcome.{Outcome, gives, refused, over, first_of}
use Rattle.rules.specs.Points.{away}
use Rattle.rules.specs.Order.{keyed, count, firsts}
use Rattle.rules.specs.Labels.{edge_in}
use Rattle.rules.specs.Search.{State, search, answer}
use Rattle.rules.specs.Refusals.{outside, start_refusal, search_refusal, refuse7, refuse8, refuse9, refuse10}
use Rattle.rules.specs.Entries.{Counts, Ask, farness, order_of, edges_of, searched, near_ids, near_distances, counts_of, asked_refusal, refusal_of}
use Rattle.rules.specs.Entries.{search_answer, ids_after, distances_after, trail_after}
use Rattle.laws.proofs.Tests.{or_off, or_off_r}
use Rattle.laws.specs.Lent.{StartOk}
use Rattle.laws.proofs.Refusals.{else_both, skipped, outcome-gives, outcome-refused, after_new, after_old}
use Rattle.laws.proofs.RefusalOrder.{stops, passes, search_order, start_ok}
use Rattle.space.specs.declared.question.Asked.{Asked}
use Rattle.space.specs.declared.question.Question.{Question}
use Rattle.search.specs.declared.see.Mark.{Mark}
use Rattle.search.specs.Line.{sees}
use Rattle.search.specs.Seen.{key_of, sought_by, Explored}
use Rattle.search.specs.Answer.{id_of, distance_of}
use Rattle.search.proofs.OffLine.{found-is, ids_are, distances_are}

-- ---- room, where refusals 7 to 10 do not apply

pub record Room (n k ids distances trail : ℕ) : Type 0 where
  pub ids_room : k ≤ ids
  pub distances_room : k ≤ distances
  pub trail_room : n ≤ trail

pub room : (n k threshold width ids distances trail : ℕ) →
    first_of (refuse7 width ∷ refuse8 width k ∷ refuse9 threshold ∷ refuse10 n k ids distances trail ∷ []) ≡ 0 → Room n k ids distances trail
room n k threshold width ids distances trail e =
    let seven = skipped (outside 1 128 width) 6 _ e in
    let eight = skipped (outside 1 width k) 7 _ seven.1 in
    let nine = skipped (ltb 32767 threshold) 8 _ eight.1 in
    let ten = skipped _ 9 0 nine.1 in
    let rest = or_off_r (ltb ids k) _ ten.0 in
    record {
      ids_room = ltb-false ids k (or_off (ltb ids k) _ ten.0);
      distances_room = ltb-false distances k (or_off (ltb distances k) (ltb trail n) rest);
      trail_room = ltb-false trail n (or_off_r (ltb distances k) (ltb trail n) rest);
    }

-- ---- an ask that is not refused

pub record SearchOk (n d vectors table query start threshold width k ids distances trail : ℕ) : Type 0 where
  pub starts : StartOk n d vectors table query start
  pub rooms : Room n k ids distances trail

pub search_ok : (n d vectors table query start threshold width k ids distances trail : ℕ) →
    search_refusal n d vectors table query start threshold width k ids distances trail ≡ 0 →
    SearchOk n d vectors table query start threshold width k ids distances trail
search_ok n d vectors table query start threshold width k ids distances trail e =
    let order = search_order n d vectors table query start threshold width k ids distances trail in
    let both = else_both (start_refusal n d vectors table query start) _ (sym order ∙ e) in
    record { starts = start_ok n d vectors table query start both.0; rooms = room n k threshold width ids distances trail both.1 }

-- ---- an exploration of a question that is not refused, in the terms of the question as it is lent

pub explored_as : (q : Asked) (k : Question) {width walked : ℕ} {marks : List Mark} {trail line' trail' : List ℕ} →
    q.points.set ≡ k.set → q.table ≡ k.table → q.query ≡ k.query → q.threshold ≡ k.threshold →
    Explored q.points.set.n (key_of q) q.table.now q.threshold width marks trail line' trail' walked →
    Explored k.set.n (keyed (away k.set.d k.set.vectors.now k.query.now)) k.table.now k.threshold width marks trail line' trail' walked
explored_as q k set table query threshold x = rw (← set, ← table, ← query, ← threshold) x

-- ---- what the entry answers and leaves

module _ (a : Ask) (ids distances trail : List ℕ) where
  -- the refusals that the code works out, by lengths: 1 to 6 first, then 7 to 10
  abbrev first : ℕ
  first = start_refusal a.n a.d (length a.vectors) (length a.table) (length a.query) a.start

  abbrev next : ℕ
  next = first_of (refuse7 a.width ∷ refuse8 a.width a.k ∷ refuse9 a.threshold ∷ refuse10 a.n a.k (length ids) (length distances) (length trail) ∷ [])

  abbrev refusal : ℕ
  refusal =
      search_refusal a.n a.d (length a.vectors) (length a.table) (length a.query) a.start a.threshold a.width a.k (length ids) (length distances) (length trail)

  refusal_is : refusal_of a ids distances trail ≡ refusal
  unfolding refusal_of asked_refusal
  refusal_is = refl

  -- refused: only the number
  pub record Refusing (r : ℕ) : Type 0 where
    pub number : refused r ≡ search_answer a ids distances trail
    pub ids_stay : ids ≡ ids_after a ids distances trail
    pub distances_stay : distances ≡ distances_after a ids distances trail
    pub trail_stays : trail ≡ trail_after a ids distances trail

  refusing : (r : ℕ) → r ≡ refusal → r ≢ 0 → Refusing r
  unfolding search_answer ids_after distances_after trail_after
  refusing r e z =
      let q : refusal_of a ids distances trail ≡ r = refusal_is ∙ sym e in
      let no_zero : refusal_of a ids distances trail ≢ 0 = λ h. z (sym q ∙ h) in
      record {
        number = sym (outcome-refused no_zero _ ∙ ap refused q);
        ids_stay = sym (after_old no_zero _ _);
        distances_stay = sym (after_old no_zero _ _);
        trail_stays = sym (after_old no_zero _ _);
      }

  pub refusing-first : (r : ℕ) → r ≡ first → r ≢ 0 → Refusing r
  refusing-first r e z = refusing r (stops _ (search_order _ _ _ _ _ _ _ _ _ _ _ _) e z) z

  pub refusing-next : (r : ℕ) → 0 ≡ first → r ≡ next → r ≢ 0 → Refusing r
  refusing-next r none e z = refusing r (e ∙ sym (passes (search_order _ _ _ _ _ _ _ _ _ _ _ _) none refl)) z

  -- not refused: counts and buffers
  pub record Giving (found seen walked : ℕ) (ids' distances' trail' : List ℕ) : Type 0 where
    pub counts : gives (record { found = found; seen = seen; walked = walked }) ≡ search_answer a ids distances trail
    pub ids_hold : ids' ≡ ids_after a ids distances trail
    pub distances_hold : distances' ≡ distances_after a ids distances trail
    pub trail-holds : trail' ≡ trail_after a ids distances trail

  counts_eq : (found seen walked f s w : ℕ) → found ≡ f → seen ≡ s → walked ≡ w →
      ◌≡◌ {A = Outcome Counts} (gives (record { found = found; seen = seen; walked = walked })) (gives (record { found = f; seen = s; walked = w }))
  counts_eq found seen walked f s w p q r = λ i. gives (record { found = p i; seen = q i; walked = r i })

  pub giving : {marks : List Mark} {line' ids' distances' trail' : List ℕ} {found walked : ℕ} → 0 ≡ first → 0 ≡ next → sees marks ≡ eqb a.start →
      Explored a.n (keyed (away a.d a.vectors a.query)) a.table a.threshold a.width marks trail line' trail' walked → found ≡ min a.k (length line') →
      ids' ≡ over (map id_of (take found line')) ids → distances' ≡ over (map distance_of (take found line')) distances →
      Giving found (length line') walked ids' distances' trail'
  unfolding search_answer ids_after distances_after trail_after counts_of near_ids near_distances searched order_of edges_of farness answer over
  giving {marks} {line'} {ids'} {distances'} {trail'} {found} {walked} e e' only x f wi wd =
      let D : ℕ → ℕ = away a.d a.vectors a.query in
      let p : ℕ → Bool = (searched a).seen in
      let small : a.n ≤ 128 = (start_ok a.n a.d _ _ _ a.start (sym e)).asked.few-points in
      let s : sought_by a.n (keyed D) a.table a.threshold a.width marks ≡ searched a =
      ap (search a.n (keyed D) (edge_in a.table a.n a.threshold) a.width) only in
      let many : length line' ≡ count a.n p = x.seen-is ∙ ap (λ (t : State). count a.n t.seen) s in
      let line_is : line' ≡ map (keyed D) (firsts (keyed D) a.n a.n p) =
      x.line_is ∙ ap (λ (t : State). map (keyed D) (firsts (keyed D) a.n a.n t.seen)) s in
      let long : walked ≡ length (searched a).trail = x.walked-is ∙ ap (λ (t : State). length t.trail) s in
      let zero_is : refusal_of a ids distances trail ≡ 0 =
      refusal_is ∙ passes (search_order _ _ _ _ _ _ _ _ _ _ _ _) e refl ∙ sym e' in
      record {
        counts = counts_eq found (length line') walked _ _ _ (found-is D a.n a.k small p (length line') found many f) many long
            ∙ sym (outcome-gives zero_is _);
        ids_hold = wi
            ∙ ap (λ (t : List ℕ). over t ids) (ids_are D a.n a.k small p line' found f line_is)
            ∙ sym (after_new zero_is _ _);
        distances_hold = wd
            ∙ ap (λ (t : List ℕ). over t distances) (distances_are D a.n a.k small p line' found f line_is)
            ∙ sym (after_new zero_is _ _);
        trail-holds = x.trail_is
            ∙ ap (λ (t : State). t.trail ++ drop walked trail) s
            ∙ ap (λ (j : ℕ). (searched a).trail ++ drop j trail) long
            ∙ sym (after_new zero_is _ _);
      }
