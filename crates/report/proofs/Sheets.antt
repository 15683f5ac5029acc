-- What a sheet that is not refused gives to the lines. Assumes nothing.
use Prim.Native.Nat.{ℕ, zero, suc, ◌+◌, ◌*◌, ◌≤◌, ◌<◌}
use native.Mathlib.Numerals.{add-one}
use native.Mathlib.Omega.{arith}
use mathlib.Core.Path.{◌≡◌, sym, ap, subst, ◌∙◌}
use mathlib.Core.Logic.{⊎_elim}
use mathlib.Core.List.{List, [], ◌∷◌}
use lib.Dec.{ltb}
use lib.IntN.{ℤ}
use lib.ListN.{length, get_or, drop}
use borrow.Author.Tests.{le-ltb, lt-leb, eq-eqb, ltb-false}
use Rattle.rules.specs.Outcome.{refused, gives, first_of}
use Rattle.rules.specs.Points.{apart}
use Rattle.rules.specs.Labels.{table_of}
use Rattle.rules.specs.Bits.{unpacked}
use Rattle.rules.specs.Sheet.{points, coords, width, ask_count, vectors_of, ask_numbers, ask_query}
use Rattle.rules.specs.Refusals.{refuse3, refuse5, refuse17, build_refusal, sheet_refusal, vectors_refusal, one_ask_refusal}
use Rattle.rules.specs.Entries.{Numbers, ask, numbers_of, vectors_after, ask_answer, query_after, table_after}
use Rattle.rules.specs.Program.{ask_of, lines_of, asks_lines}
use Rattle.laws.proofs.Tests.{le_or_lt}
use Rattle.laws.proofs.Values.{length-values}
use Rattle.laws.proofs.Fields.{points-small, coords-small}
use Rattle.laws.proofs.Refusals.{else_none, skipped, outcome-gives, outcome_value, after_new}
use Rattle.std.specs.Prelude.{Result, Ok, Err}
use Rattle.lines.specs.declared.TooShort.{TooShort}
use Rattle.lines.specs.Placing.{too_short}
use Rattle.report.specs.Pages.{Paged, SheetGiven}
use Rattle.report.proofs.Pages.{paged_none, paged_more, paged_short, paged_told}

-- ---- the header's numbers

module _ (ys : List ℕ) where
  pub asks-few : sheet_refusal ys ≡ 0 → ask_count ys ≤ 127
  unfolding sheet_refusal
  asks-few e =
      let a = skipped (ltb (length ys) 3) 14 _ e in
      let b = skipped (ltb 127 (ask_count ys)) 11 _ a.1 in
      ltb-false 127 (ask_count ys) b.0

  pub vectors-long : length (vectors_of ys) ≡ points ys * coords ys
  unfolding vectors_of
  vectors-long = length-values (width ys) (points ys * coords ys) (drop 24 (unpacked ys))

-- the limits of a sheet's set
module _ {ys : List ℕ} {n d : ℕ} {vectors : List ℤ} (h : SheetGiven ys n d vectors) where
  pub few-points : n ≤ 128
  few-points = rw h.n-is (points-small ys).1

  pub few-coordinates : d ≤ 64
  few-coordinates = rw h.d-is (coords-small ys).1

-- ---- one ask

ask_room : (ys : List ℕ) (i room : ℕ) → sheet_refusal ys ≡ 0 → i < ask_count ys → room ≡ coords ys → one_ask_refusal ys i room ≡ 0
unfolding one_ask_refusal
ask_room ys i room e l r =
    else_none e (first_of (refuse17 (ask_count ys) i ∷ refuse5 (coords ys) room ∷ []))
    ∙ rw (lt-leb (ask_count ys) i l, eq-eqb room (coords ys) r)

module _ {ys : List ℕ} {n d : ℕ} {vectors : List ℤ} (h : SheetGiven ys n d vectors) (i : ℕ) (l : i < ask_count ys) (query : List ℤ) (q : length query ≡ d) where
  nothing : one_ask_refusal ys i (length query) ≡ 0
  nothing = ask_room ys i (length query) h.readable l (q ∙ h.d-is)

  pub not-refused : (r : ℕ) → refused r ≡ ask_answer ys i query → ⊥
  unfolding ask_answer
  not-refused r e =
      let f : refused r ≡ gives (numbers_of (ask_numbers ys i)) = e ∙ outcome-gives nothing (numbers_of (ask_numbers ys i)) in
      let z : ◌≡◌ {A = ℕ} 0 1 = cc in omega arith

  pub ask_read :
      (s w k t : ℕ) (query' : List ℤ) (table : List ℕ) →
      gives (record { start = s; width = w; k = k; threshold = t }) ≡ ask_answer ys i query → query' ≡ query_after ys i query →
      ask n d vectors table query' s t w k ≡ ask_of ys table i
  unfolding ask_answer query_after ask_of numbers_of
  ask_read s w k t query' table e f =
      let numbers : Numbers = record { start = s; width = w; k = k; threshold = t } in
      let m : numbers_of (ask_numbers ys i) ≡ numbers = outcome_value (one_ask_refusal ys i (length query)) (numbers_of (ask_numbers ys i)) numbers (sym e) in
      let es : get_or (ask_numbers ys i) 0 0 ≡ s = ap (λ (x : Numbers). x.start) m in
      let ew : get_or (ask_numbers ys i) 1 0 ≡ w = ap (λ (x : Numbers). x.width) m in
      let ek : get_or (ask_numbers ys i) 2 0 ≡ k = ap (λ (x : Numbers). x.k) m in
      let et : get_or (ask_numbers ys i) 3 0 ≡ t = ap (λ (x : Numbers). x.threshold) m in
      let eq : query' ≡ ask_query ys i = f ∙ after_new nothing query (ask_query ys i) in
      rw (h.n-is, h.d-is, h.vectors_are, eq, es, ew, ek, et)

-- ---- all asks

module _ (ys table : List ℕ) where
  pub asks_none : (at : ℕ) (old : List ℕ) → at ≤ length old → Paged at (asks_lines ys table 0) old old (Ok at)
  unfolding asks_lines
  asks_none at old l = paged_none at old l

  pub asks-next :
      (i : ℕ) {at end : ℕ} {old mid new : List ℕ} {r r' : Result ℕ TooShort} → Paged at (asks_lines ys table i) old mid (Ok end) →
      Paged end (lines_of i (ask_of ys table i)) mid new r → r ≡ r' → Paged at (asks_lines ys table (i + 1)) old new r'
  unfolding asks_lines
  asks-next i x y e = rw add-one (paged_told e (paged_more x y))

  pub asks-short :
      (asks j : ℕ) {at : ℕ} {old mid : List ℕ} → j ≤ asks → Paged at (asks_lines ys table j) old mid (Err too_short) →
      Paged at (asks_lines ys table asks) old mid (Err too_short)
  unfolding asks_lines
  asks-short zero j {at} {old} {mid} l x = let e : j ≡ 0 = omega arith in subst (λ (m : ℕ). Paged at (asks_lines ys table m) old mid (Err too_short)) e x
  asks-short (suc asks) j {at} {old} {mid} l x =
      ⊎_elim
      (λ (h : j ≤ asks). paged_short (asks-short asks j h x) (lines_of asks (ask_of ys table asks)))
      (λ (h : asks < j). let e : j ≡ suc asks = omega arith in subst (λ (m : ℕ). Paged at (asks_lines ys table m) old mid (Err too_short)) e x)
      (le_or_lt j asks)

-- ---- the set

vectors_room : (ys : List ℕ) (room : ℕ) → sheet_refusal ys ≡ 0 → room ≡ points ys * coords ys → vectors_refusal ys room ≡ 0
unfolding vectors_refusal
vectors_room ys room e r = else_none e (first_of (refuse3 (points ys) (coords ys) room ∷ [])) ∙ rw (eq-eqb room (points ys * coords ys) r)

build_room : (n d vectors table : ℕ) → 1 ≤ n → n ≤ 128 → 1 ≤ d → d ≤ 64 → vectors ≡ n * d → table ≡ n * n → build_refusal n d vectors table ≡ 0
unfolding build_refusal
build_room n d vectors table n1 n2 d1 d2 v t =
    rw (le-ltb n 1 n1, le-ltb 128 n n2, le-ltb d 1 d1, le-ltb 64 d d2, eq-eqb vectors (n * d) v, eq-eqb table (n * n) t)

module _ {ys : List ℕ} {n d : ℕ} {vectors : List ℤ} (h : SheetGiven ys n d vectors) where
  pub set_read : (buffer buffer' : List ℤ) → length buffer ≡ n * d → buffer' ≡ vectors_after ys buffer → SheetGiven ys n d buffer'
  unfolding vectors_after
  set_read buffer buffer' l e = record {
    readable = h.readable;
    n-is = h.n-is;
    d-is = h.d-is;
    vectors_are = e ∙ after_new (vectors_room ys (length buffer) h.readable (rw (← h.n-is, ← h.d-is) l)) buffer (vectors_of ys);
  }

  pub table_built :
      (table table' : List ℕ) → length table ≡ n * n → table' ≡ table_after n d vectors table →
      table' ≡ table_of (apart (coords ys) (vectors_of ys)) (points ys)
  unfolding table_after
  table_built table table' l e =
      e
      ∙ after_new (build_room n d (length vectors) (length table) n1 n2 d1 d2 v l) table (table_of (apart d vectors) n)
      ∙ rw (h.n-is, h.d-is, h.vectors_are)
    where
      n1 : 1 ≤ n
      n1 = rw h.n-is (points-small ys).0

      n2 : n ≤ 128
      n2 = few-points h

      d1 : 1 ≤ d
      d1 = rw h.d-is (coords-small ys).0

      d2 : d ≤ 64
      d2 = few-coordinates h

      v : length vectors ≡ n * d
      v = rw (h.n-is, h.d-is, h.vectors_are) (vectors-long ys)
