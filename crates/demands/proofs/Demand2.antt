-- Demand 2, of what the entries return and write. Assumes nothing.
use Prim.Native.Nat.{ℕ, suc, ◌≤◌, ◌<◌}
use native.Mathlib.Omega.{arith}
use Rattle.std.specs.Prelude.{Result, Ok}
use Rattle.space.specs.declared.refusal.Refusal.{Refusal}
use mathlib.Core.Path.{◌≡◌, refl, sym, ap, ◌∙◌, subst}
use mathlib.Core.Bool.{Bool}
use mathlib.Core.Option.{Option, none, some}
use mathlib.Core.List.{List}
use lib.IntN.{ℤ}
use lib.ListN.{length, take}
use Rattle.rules.specs.Outcome.{over}
use Rattle.rules.specs.Points.{coordinates, apart, away}
use Rattle.rules.specs.Bits.{Bytes}
use Rattle.rules.specs.Sheet.{Contents, sheet, vectors_of, ask_numbers, ask_query}
use Rattle.rules.specs.Edges.{DirectRule, Closing}
use Rattle.rules.specs.Labels.{table_of, edge_in}
use Rattle.rules.specs.Walk.{Walk, moved, at_end, stepped, step_from}
use Rattle.rules.specs.Entries as rules
use Rattle.rules.specs.Entries.{Ask, table_after, goes_to, step_answer, record_after, end_of, header_answer, vectors_after, numbers_of, ask_answer, query_after}
use Rattle.laws.proofs.Refusals.{after_new, outcome-none, outcome_value, else_both, set_ok}
use Rattle.laws.proofs.RefusalOrder.{build_order}
use Rattle.laws.proofs.Edges.{direct_one}
use Rattle.laws.proofs.Labelled.{label-by_rule}
use Rattle.laws.proofs.Limits as limits
use Rattle.laws.proofs.Distances.{apart_symmetric}
use Rattle.laws.proofs.Table.{table-length, table_at, cell_self, cell-direct, cell-label, own_closing}
use Rattle.search.specs.declared.Counts.{Counts}
use Rattle.walk.specs.declared.answers.Step.TheVariants.{Moved, AtEnd}
use Rattle.walk.specs.declared.answers.End.{End}
use Rattle.walk.specs.Whole.{Arrived, BySteps}
use Rattle.walk.proofs.Whole.{by_steps, arrives, arrives_at-zero}
use Rattle.sheet.specs.declared.Head.{Head}
use Rattle.sheet.specs.declared.Numbers.{Numbers}
use Rattle.sheet.specs.Answers.{head_of}
use Rattle.sheet.specs.AsRead.{AsRead}
use Rattle.sheet.proofs.Told.{write_told_lem}
use Rattle.sheet.proofs.Trips.{read_written, write_read}
use Rattle.demands.specs.Calls.{BuildCall, SearchCall, StepCall, WalkCall, WriteCall, HeaderCall, VectorsCall, AskCall}
use Rattle.demands.specs.Demand2.{Labelled, Searches, Walks}
use Rattle.demands.proofs.Given.{gave_search, ids_begin, distances_begin, trail_begins, walk_taken, gave_end, gave_length, gave_sheet}

-- ---- labels

-- of coordinates from -128 to 127, and of every solution of the rule for direct edges
pub build_labels : {n d : ℕ} {vectors : List ℤ} {table table' : List ℕ}
    → BuildCall n d vectors table 0 table'
    → limits.Bytes vectors
    → (direct : ℕ → ℕ → Bool)
    → DirectRule (apart d vectors) n direct
    → Labelled n d vectors table' direct
unfolding table_after
build_labels {n} {d} {vectors} {table} {table'} h bytes direct rule =
    let δ = apart d vectors in
    let symm = apart_symmetric d vectors in
    let is : table' ≡ table_of δ n = h.table-holds ∙ after_new (sym h.answers) table (table_of δ n) in
    let ok = set_ok n d (length vectors) (else_both _ _ (sym (build_order n d (length vectors) (length table)) ∙ sym h.answers)).0 in
    let one = direct_one δ symm n direct rule in
    rw is (record {
      whole = table-length δ n;
      diagonal = λ u l. table_at δ n u u l l ∙ cell_self δ n u;
      direct_0 = λ u v lu lv a e. table_at δ n u v lu lv ∙ cell-direct δ n u v a (sym (one u v lu lv a) ∙ e);
      labels = λ u v lu lv a e.
          rw (table_at δ n u v lu lv, cell-label δ n u v a (sym (one u v lu lv a) ∙ e))
          (label-by_rule δ symm n direct rule u v lu lv a (limits.apart-small n d vectors ok bytes u v lu lv) e);
    })

-- ---- searches

pub searches_by_the_rules : {a : Ask} {c : Counts} {ids distances trail ids' distances' trail' : List ℕ}
    → SearchCall a ids distances trail (Ok c) ids' distances' trail'
    → Searches a c ids' distances' trail'
searches_by_the_rules h =
    let g = gave_search h in
    record {
      found = g.found;
      seen = g.seen;
      walked = g.walked;
      ids_are = ids_begin g;
      distances_are = distances_begin g;
      trail_is = trail_begins g;
    }

-- ---- walks

same_end : {x y : End} → ◌≡◌ {A = Result End Refusal} (Ok x) (Ok y) → x ≡ y
same_end e = cc

module _ {n d threshold : ℕ} {vectors query : List ℤ} {table : List ℕ} where
  -- a step that moves goes where the rule says, and counts
  pub step_moves : {w w' : Walk}
      → StepCall n d vectors table query threshold w (Ok Moved) w'
      → (x : ℕ) × (goes_to n d vectors table query threshold w.current ≡ some x) × (w' ≡ record { current = x; moves = suc w.moves })
  unfolding step_answer record_after stepped step_from
  step_moves {w} {w'} h =
      let free = outcome-none _ _ _ (sym h.answers) in
      go (goes_to n d vectors table query threshold w.current) (outcome_value _ _ _ (sym h.answers)) (h.record_holds ∙ after_new free _ _)
    where
      go : (o : Option ℕ) → stepped o ≡ moved → w' ≡ step_from w o → (x : ℕ) × (o ≡ some x) × (w' ≡ record { current = x; moves = suc w.moves })
      go none e q = let z : ◌≡◌ {A = ℕ} 0 1 = cc in absurd (omega arith)
      go (some x) e q = (x, refl, q)

  -- a step at the end has nowhere to go, and the record stays
  pub step_stays : {w w' : Walk}
      → StepCall n d vectors table query threshold w (Ok AtEnd) w'
      → (goes_to n d vectors table query threshold w.current ≡ none) × (w' ≡ w)
  unfolding step_answer record_after stepped step_from
  step_stays {w} {w'} h =
      let free = outcome-none _ _ _ (sym h.answers) in
      go (goes_to n d vectors table query threshold w.current) (outcome_value _ _ _ (sym h.answers)) (h.record_holds ∙ after_new free _ _)
    where
      go : (o : Option ℕ) → stepped o ≡ at_end → w' ≡ step_from w o → (o ≡ none) × (w' ≡ w)
      go none e q = (refl, q)
      go (some x) e q = let z : ◌≡◌ {A = ℕ} 0 1 = cc in absurd (omega arith)

  module _ {start : ℕ} {e : End} (h : WalkCall n d vectors table query threshold start (Ok e)) where
    pub walks_by_the_rules : Walks n d vectors table query threshold start e
    unfolding end_of
    walks_by_the_rules =
        let is = gave_end h in
        let last = ap (λ (x : rules.End). x.last) is in
        record {
          last-is = last;
          distance_is = ap (λ (x : rules.End). x.distance) is ∙ ap (away d vectors query) (sym last);
          moves_are = ap (λ (x : rules.End). x.moves) is;
        }

    -- the whole walk is steps of a record that starts with 0 moves, none of which is refused
    pub walk-by_steps : BySteps n d vectors table query threshold start
    walk-by_steps = by_steps n d vectors table query threshold start (walk_taken h)

    -- it ends at an id of the set where no step moves, in at most n - 1 moves
    pub walk_ends : Arrived n d vectors table query threshold e
    walk_ends =
        let a = arrives n d vectors table query threshold start (walk_taken h) (Ok e) h.answers in
        subst (Arrived n d vectors table query threshold) (sym (same_end a.1)) a.2

    -- on the set's own table, at every threshold, a query equal to some point ends at D = 0
    pub walk_to_a_point : table ≡ table_of (apart d vectors) n → (v : ℕ) → v < n → query ≡ coordinates d vectors v → e.distance ≡ 0
    walk_to_a_point own v lv is =
        let closing : Closing (apart d vectors) n (edge_in table n threshold) = rw own (own_closing (apart d vectors) n (apart_symmetric d vectors) threshold) in
        let a = arrives_at-zero n d vectors table query threshold start (walk_taken h) closing v lv is (Ok e) h.answers in
        ap (λ (x : End). x.distance) (same_end a.1) ∙ a.2

-- ---- sheets

-- the sheet of the contents is written at the output's beginning, and the bytes past it are as they were
pub writes_the_sheet : {k : Contents} {output output' : List ℕ} {l : ℕ}
    → WriteCall k output (Ok l) output'
    → (l ≡ length (sheet k)) × (output' ≡ over (sheet k) output)
writes_the_sheet h = (gave_length h, gave_sheet h)

-- what the three readers give is what the sheet's fields hold
pub reads_the_header : {ys : List ℕ} {k : Head} → HeaderCall ys (Ok k) → k ≡ head_of ys
unfolding header_answer
reads_the_header h =
    let is = sym (outcome_value _ _ _ (sym h.answers)) in λ i. record { n = (is i).n; d = (is i).d; c = (is i).c; asks = (is i).asks }

pub reads_the_vectors : {ys : List ℕ} {buffer buffer' : List ℤ} → VectorsCall ys buffer 0 buffer' → buffer' ≡ vectors_of ys
unfolding vectors_after
reads_the_vectors h = h.buffer_holds ∙ after_new (sym h.answers) _ _

pub reads_an_ask : {ys : List ℕ} {i : ℕ} {a : Numbers} {query query' : List ℤ}
    → AskCall ys i query (Ok a) query'
    → (record { start = a.start; width = a.width; k = a.k; threshold = a.threshold } ≡ numbers_of (ask_numbers ys i)) × (query' ≡ ask_query ys i)
unfolding ask_answer query_after
reads_an_ask h =
    (sym (outcome_value _ _ _ (sym h.answers)), h.query-holds ∙ after_new (outcome-none _ _ _ (sym h.answers)) _ _)

-- reading a written sheet gives back its contents
pub read_what_was_written : {k : Contents} {output output' : List ℕ} {l : ℕ}
    → WriteCall k output (Ok l) output'
    → AsRead (take l output') k
read_what_was_written {k} {output} {output'} {l} h =
    subst (λ (ys : List ℕ). AsRead (take l ys) k) (sym h.output_holds) (read_written k output l (sym h.answers))

-- writing what was read gives back its bytes, into any output that has room for them
pub write_what_was_read : {ys : List ℕ} {k : Contents} {output output' : List ℕ} {r : Result ℕ Refusal}
    → Bytes ys
    → AsRead ys k
    → length ys ≤ length output
    → WriteCall k output r output'
    → (r ≡ Ok (length ys)) × (output' ≡ over ys output)
write_what_was_read {ys} {k} {output} {output'} {r} bytes was room h =
    let w = write_read ys bytes k was output room in
    (write_told_lem r (Ok (length ys)) (h.answers ∙ w.0), h.output_holds ∙ w.1)
