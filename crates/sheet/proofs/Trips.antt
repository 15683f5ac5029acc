-- Reading a written sheet gives back its contents, and writing what was read gives back its bytes: of what the entries answer and leave.
-- Assumes nothing.
use mathlib.Core.Path.{◌≡◌, sym, ap, ap₂, ◌∙◌, subst}
use mathlib.Core.List.{List, [], ◌∷◌, ◌++◌}
use Prim.Native.Nat.{ℕ, zero, suc, ◌+◌, ◌*◌, ◌≤◌, ◌<◌}
use native.Mathlib.Omega.{arith}
use lib.ListN.{length, take, drop, replicate, length-replicate, length-drop, take-append-drop, drop_of_length-le}
use lib.Seq.{take-append_seam, take_all, drop-drop, length-take-le}
use lib.IntN.{ℤ, pos}
use borrow.Author.Tests.{lt-leb, eq-eqb}
use Rattle.rules.specs.Bits.{Bytes}
use Rattle.rules.specs.Sheet.{Contents, sheet, points, coords, width, ask_count, vectors_of, ask_numbers, ask_query, contents_of}
use Rattle.rules.specs.Outcome.{Outcome, gives, outcome, over}
use Rattle.rules.specs.Refusals.{sheet_refusal, vectors_refusal, one_ask_refusal}
use Rattle.rules.specs.Entries.{Header, header_answer, vectors_after, numbers_of, ask_answer, query_after, write_refused, write_answer, output_after}
use Rattle.laws.proofs.Refusals.{else_none, outcome-gives, outcome-none, outcome_value, after_new}
use Rattle.laws.proofs.Numbers.{four}
use Rattle.laws.proofs.Writable.{Writable, writable}
use Rattle.laws.proofs.ReadBack.{read_back, sheet_read}
use Rattle.laws.proofs.WriteBack.{write_back, read_writable, write_again}
use Rattle.laws.proofs.OneAsk.{one_numbers, one_query}
use Rattle.sheet.specs.AsRead.{AsRead, numbers_at}

-- ---- what the readers give of any sheet that is not refused

module _ (ys : List ℕ) (ok : sheet_refusal ys ≡ 0) where
  no_vectors_refusal : (room : ℕ) → room ≡ points ys * coords ys → vectors_refusal ys room ≡ 0
  unfolding vectors_refusal
  no_vectors_refusal room e = else_none ok _ ∙ rw (eq-eqb room (points ys * coords ys) e)

  no_ask_refusal : (i room : ℕ) → i < ask_count ys → room ≡ coords ys → one_ask_refusal ys i room ≡ 0
  unfolding one_ask_refusal
  no_ask_refusal i room l e = else_none ok _ ∙ rw (lt-leb (ask_count ys) i l, eq-eqb room (coords ys) e)

  answers : (i room : ℕ) → i < ask_count ys → room ≡ coords ys
      → outcome (one_ask_refusal ys i room) (numbers_of (ask_numbers ys i)) ≡ gives (numbers_of (numbers_at (contents_of ys) i))
  answers i room l e =
      outcome-gives (no_ask_refusal i room l e) (numbers_of (ask_numbers ys i)) ∙ ap (λ (ns : List ℕ). gives (numbers_of ns)) (one_numbers ys i l)

  -- the contents that a sheet says are what the readers give of it
  pub reads_contents : AsRead ys (contents_of ys)
  unfolding contents_of header_answer vectors_after ask_answer query_after
  reads_contents =
      record {
        header = outcome-gives ok _;
        vectors-given = λ buffer e. no_vectors_refusal (length buffer) e;
        vectors = λ buffer e. after_new (no_vectors_refusal (length buffer) e) buffer (vectors_of ys);
        numbers = λ i l buffer e. answers i (length buffer) l e;
        queries = λ i l buffer e. after_new (no_ask_refusal i (length buffer) l e) buffer (ask_query ys i) ∙ one_query ys i l;
        numbers_are = (read_writable ys ok).numbers_are;
        queries_are = (read_writable ys ok).queries_are;
      }

-- READING WHAT WAS WRITTEN: where the writer answers a length, the readers give back the contents of that many bytes
module _ (k : Contents) (output : List ℕ) (l : ℕ) (wrote : write_answer k output ≡ gives l) where
  none : write_refused k output ≡ 0
  unfolding write_answer
  none = outcome-none (write_refused k output) (length (sheet k)) l wrote

  can : Writable k
  unfolding write_refused
  can = (writable k (length output) none).0

  written : take l (output_after k output) ≡ sheet k
  unfolding write_answer output_after over
  written =
      let n : length (sheet k) ≡ l = outcome_value (write_refused k output) (length (sheet k)) l wrote in
      ap₂ take (sym n) (after_new none output (over (sheet k) output)) ∙ take-append_seam (sheet k) (drop (length (sheet k)) output)

  pub read_written : AsRead (take l (output_after k output)) k
  read_written =
      let of_sheet : AsRead (sheet k) k = subst (AsRead (sheet k)) (read_back k can) (reads_contents (sheet k) (sheet_read k can)) in
      subst (λ (ys : List ℕ). AsRead ys k) (sym written) of_sheet

-- ---- lists that agree part by part

module _ {A : Type 0} (m : ℕ) where
  parts : (a : ℕ) (xs zs : List A)
      → length xs ≡ a * m
      → length zs ≡ a * m
      → ((i : ℕ) → i < a → take m (drop (i * m) xs) ≡ take m (drop (i * m) zs))
      → xs ≡ zs
  parts zero xs zs e f h = drop_of_length-le xs {i = 0} (omega arith) ∙ sym (drop_of_length-le zs {i = 0} (omega arith))
  parts (suc a) xs zs e f h =
      let z : 0 * m ≡ 0 = omega arith in
      let first : take m xs ≡ take m zs = rw z at (h 0 (omega arith)) in
      let rest : drop m xs ≡ drop m zs
      = parts a (drop m xs) (drop m zs) (rw length-drop (omega arith)) (rw length-drop (omega arith)) (λ i l. next i l) in
      sym (take-append-drop m xs) ∙ ap₂ (λ (p q : List A). p ++ q) first rest ∙ take-append-drop m zs
    where
      next : (i : ℕ) → i < a → take m (drop (i * m) (drop m xs)) ≡ take m (drop (i * m) (drop m zs))
      next i l =
          let s : suc i * m ≡ m + i * m = omega arith in
          rw (drop-drop (i * m) m xs, drop-drop (i * m) m zs, ← s) (h (suc i) (omega arith))

same_value : {A : Type 0} (a b : A) → ◌≡◌ {A = Outcome A} (gives a) (gives b) → a ≡ b
same_value a b e = cc

-- four numbers are those of their record
four_same : (xs zs : List ℕ) → length xs ≡ 4 → length zs ≡ 4 → numbers_of xs ≡ numbers_of zs → xs ≡ zs
unfolding numbers_of
four_same xs zs e f r =
    sym (take_all 4 xs (omega arith))
    ∙ four xs (omega arith)
    ∙ (λ i. (r i).start ∷ (r i).width ∷ (r i).k ∷ (r i).threshold ∷ [])
    ∙ sym (four zs (omega arith))
    ∙ take_all 4 zs (omega arith)

-- WRITING WHAT WAS READ: where the readers give these contents of a sheet's bytes, writing them gives those bytes
module _ (ys : List ℕ) (small : Bytes ys) (k : Contents) (was : AsRead ys k) where
  read : sheet_refusal ys ≡ 0
  unfolding header_answer
  read = outcome-none (sheet_refusal ys) _ _ was.header

  header_is : ◌≡◌ {A = Header} (record { n = points ys; d = coords ys; c = width ys; asks = ask_count ys })
      (record { n = k.n; d = k.d; c = k.c; asks = k.asks })
  unfolding header_answer
  header_is = outcome_value (sheet_refusal ys) _ _ was.header

  n-is : points ys ≡ k.n
  n-is = ap (λ (h : Header). h.n) header_is

  d-is : coords ys ≡ k.d
  d-is = ap (λ (h : Header). h.d) header_is

  c-is : width ys ≡ k.c
  c-is = ap (λ (h : Header). h.c) header_is

  asks-is : ask_count ys ≡ k.asks
  asks-is = ap (λ (h : Header). h.asks) header_is

  -- what they give of the contents that the sheet says
  said : AsRead ys (contents_of ys)
  said = reads_contents ys read

  vectors_same : vectors_of ys ≡ k.vectors
  unfolding contents_of
  vectors_same =
      let buffer = replicate (k.n * k.d) (pos 0) in
      let e : length buffer ≡ k.n * k.d = length-replicate (k.n * k.d) (pos 0) in
      sym (said.vectors buffer (e ∙ rw (n-is, d-is))) ∙ was.vectors buffer e

  buffer : List ℤ
  buffer = replicate k.d (pos 0)

  buffer_is : length buffer ≡ k.d
  unfolding buffer
  buffer_is = length-replicate k.d (pos 0)

  numbers_same : (contents_of ys).numbers ≡ k.numbers
  unfolding contents_of
  numbers_same =
      let e : length (contents_of ys).numbers ≡ k.asks * 4 = said.numbers_are ∙ rw asks-is (omega arith) in
      parts 4 k.asks (contents_of ys).numbers k.numbers e (was.numbers_are ∙ omega arith) (λ i l. one i l e)
    where
      one : (i : ℕ) → i < k.asks → length (contents_of ys).numbers ≡ k.asks * 4
          → take 4 (drop (i * 4) (contents_of ys).numbers) ≡ take 4 (drop (i * 4) k.numbers)
      one i l e =
          let f : i * 4 ≡ 4 * i = omega arith in
          rw f
          (four_same (numbers_at (contents_of ys) i) (numbers_at k i)
          (length-take-le 4 (drop (4 * i) (contents_of ys).numbers) (rw length-drop (omega arith)))
          (length-take-le 4 (drop (4 * i) k.numbers) (rw length-drop (omega (arith, was.numbers_are))))
          (same_value _ _ (sym (said.numbers i (rw asks-is l) buffer (buffer_is ∙ sym d-is)) ∙ was.numbers i l buffer buffer_is)))

  queries_same : (contents_of ys).queries ≡ k.queries
  unfolding contents_of
  queries_same =
      parts k.d k.asks (contents_of ys).queries k.queries (said.queries_are ∙ rw (asks-is, d-is)) was.queries_are
      (λ i l. ap (λ (d : ℕ). take d (drop (i * d) (contents_of ys).queries)) (sym d-is)
      ∙ sym (said.queries i (rw asks-is l) buffer (buffer_is ∙ sym d-is))
      ∙ was.queries i l buffer buffer_is)

  contents_same : contents_of ys ≡ k
  unfolding contents_of
  contents_same =
      let ns = numbers_same in
      let qs = queries_same in
      λ i. record { n = n-is i; d = d-is i; c = c-is i; asks = asks-is i; vectors = vectors_same i; numbers = ns i; queries = qs i }

  pub write_read : (output : List ℕ)
      → length ys ≤ length output
      → (write_answer k output ≡ gives (length ys)) × (output_after k output ≡ over ys output)
  unfolding write_answer output_after write_refused contents_of
  write_read output room =
      let is : sheet k ≡ ys = ap sheet (sym contents_same) ∙ write_back ys read small in
      let free : write_refused (contents_of ys) output ≡ 0 = write_again ys read (length output) room in
      let none : write_refused k output ≡ 0 = ap (λ (x : Contents). write_refused x output) (sym contents_same) ∙ free in
      (outcome-gives none _ ∙ ap (λ (zs : List ℕ). gives (length zs)) is, after_new none output _ ∙ ap (λ (zs : List ℕ). over zs output) is)
