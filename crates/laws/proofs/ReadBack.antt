-- Reading a written sheet gives back its contents. Assumes nothing.
use mathlib.Core.Path.{◌≡◌, refl, sym, ap, ◌∙◌}
use mathlib.Core.Bool.{Bool}
use mathlib.Core.List.{List, ◌++◌, append_assoc}
use Prim.Native.Nat.{ℕ, ◌+◌, ◌-◌, ◌*◌, ◌≤◌}
use native.Mathlib.Omega.{arith}
use lib.ListN.{length, take, drop, length-append}
use lib.Seq.{take_all, drop_at, drop-drop}
use Rattle.rules.specs.Bits.{number, zeros, value_bits, unpacked, byte_count, filled}
use Rattle.rules.specs.Sheet.{Contents, head_bits, ask_bits, sheet_bits, sheet, bit_count, sheet_length, field_at, points, coords, width, ask_count}
use Rattle.rules.specs.Sheet.{required, filling, vectors_of, ask_place, all_numbers, all_queries, contents_of}
use Rattle.rules.specs.Refusals.{sheet_refusal}
use Rattle.laws.proofs.Bits.{length-zeros, number-zeros}
use Rattle.laws.proofs.Values.{length-value_bits, values-back}
use Rattle.laws.proofs.Packing.{length-bytes_of, unpacked-bytes_of}
use Rattle.laws.proofs.Writable.{Writable, read_none}
use Rattle.laws.proofs.FourFields.{row_1, row_2, row_3, row_4, row_past, length-row}
use Rattle.laws.proofs.Asks.{length-ask_bits, numbers-back, queries-back}

-- ---- the sheet's length

pub length-head_bits : (n d c asks : ℕ) → length (head_bits n d c asks) ≡ 24
unfolding head_bits
length-head_bits n d c asks = length-row 7 6 3 8 (n - 1) (d - 1) (c - 1) asks

pub length-sheet_bits : (k : Contents) → length k.vectors ≡ k.n * k.d → length k.queries ≡ k.asks * k.d
    → length (sheet_bits k) ≡ bit_count k.n k.d k.c k.asks
unfolding sheet_bits bit_count
length-sheet_bits k v q =
    rw (
      length-append (head_bits k.n k.d k.c k.asks) (value_bits k.c k.vectors ++ ask_bits k.d k.c k.asks k.numbers k.queries),
      length-append (value_bits k.c k.vectors) (ask_bits k.d k.c k.asks k.numbers k.queries),
      length-head_bits,
      length-value_bits,
      v,
      length-ask_bits k.d k.c k.asks k.numbers k.queries (omega arith),
    )

three : (n d c asks : ℕ) → 3 ≤ byte_count (bit_count n d c asks)
unfolding byte_count bit_count
three n d c asks = omega arith

-- ---- reading what was written

module _ (k : Contents) (w : Writable k) where
  abbrev Vs : List Bool
  Vs = value_bits k.c k.vectors

  abbrev As : List Bool
  As = ask_bits k.d k.c k.asks k.numbers k.queries

  abbrev Zs : List Bool
  Zs = zeros (byte_count (length (sheet_bits k)) * 8 - length (sheet_bits k))

  -- what follows the header
  abbrev Rest : List Bool
  Rest = Vs ++ (As ++ Zs)

  is : unpacked (sheet k) ≡ head_bits k.n k.d k.c k.asks ++ Rest
  unfolding sheet filled sheet_bits
  is = unpacked-bytes_of (sheet_bits k) ∙ simp append_assoc

  pub points-back : points (sheet k) ≡ k.n
  unfolding points field_at head_bits
  points-back =
      let e : k.n - 1 + 1 ≡ k.n = omega (arith, w.some-points) in
      ap (λ (u : List Bool). number (take 7 (drop 0 u)) + 1) is
      ∙ ap (λ (x : ℕ). x + 1) (row_1 7 6 3 8 (k.n - 1) (k.d - 1) (k.c - 1) k.asks Rest (omega (arith, w)))
      ∙ e

  pub coords-back : coords (sheet k) ≡ k.d
  unfolding coords field_at head_bits
  coords-back =
      let e : k.d - 1 + 1 ≡ k.d = omega (arith, w.some-coordinates) in
      ap (λ (u : List Bool). number (take 6 (drop 7 u)) + 1) is
      ∙ ap (λ (x : ℕ). x + 1) (row_2 7 6 3 8 (k.n - 1) (k.d - 1) (k.c - 1) k.asks Rest (omega (arith, w)))
      ∙ e

  pub width_back : width (sheet k) ≡ k.c
  unfolding width field_at head_bits
  width_back =
      let e : k.c - 1 + 1 ≡ k.c = omega (arith, w.some-width) in
      ap (λ (u : List Bool). number (take 3 (drop 13 u)) + 1) is
      ∙ ap (λ (x : ℕ). x + 1) (row_3 7 6 3 8 (k.n - 1) (k.d - 1) (k.c - 1) k.asks Rest (omega (arith, w)))
      ∙ e

  pub asks_back : ask_count (sheet k) ≡ k.asks
  unfolding ask_count field_at head_bits
  asks_back =
      ap (λ (u : List Bool). number (take 8 (drop 16 u))) is
      ∙ row_4 7 6 3 8 (k.n - 1) (k.d - 1) (k.c - 1) k.asks Rest (omega (arith, w))

  past_head : drop 24 (unpacked (sheet k)) ≡ Rest
  unfolding head_bits
  past_head = ap (drop 24) is ∙ row_past 7 6 3 8 (k.n - 1) (k.d - 1) (k.c - 1) k.asks Rest

  pub vectors-back : vectors_of (sheet k) ≡ k.vectors
  unfolding vectors_of
  vectors-back =
      rw (width_back, points-back, coords-back, past_head, ← w.vectors_are) (values-back k.c w.some-width k.vectors (As ++ Zs) w.vectors_fit)

  past_vectors : drop (ask_place (sheet k) 0) (unpacked (sheet k)) ≡ As ++ Zs
  unfolding ask_place
  past_vectors =
      let e : 24 + (k.n * k.d * k.c + 0 * (36 + k.d * k.c)) ≡ 24 + k.n * k.d * k.c = omega arith in
      rw (points-back, coords-back, width_back, e)
      (sym (drop-drop (k.n * k.d * k.c) 24 (unpacked (sheet k)))
      ∙ ap (drop (k.n * k.d * k.c)) past_head
      ∙ drop_at Vs (As ++ Zs) (k.n * k.d * k.c) (length-value_bits k.c k.vectors ∙ ap (λ (x : ℕ). x * k.c) w.vectors_are))

  -- READING WHAT WAS WRITTEN
  pub read_back : contents_of (sheet k) ≡ k
  unfolding contents_of
  read_back =
      let p : all_numbers (coords (sheet k)) (width (sheet k)) (ask_count (sheet k)) (drop (ask_place (sheet k) 0) (unpacked (sheet k))) ≡ k.numbers
      = rw (coords-back, width_back, asks_back, past_vectors)
      (numbers-back k.d k.c k.asks k.numbers k.queries Zs w.numbers_are w.queries_are w.asks_fit) in
      let q : all_queries (coords (sheet k)) (width (sheet k)) (ask_count (sheet k)) (drop (ask_place (sheet k) 0) (unpacked (sheet k))) ≡ k.queries
      = rw (coords-back, width_back, asks_back, past_vectors)
      (queries-back k.d k.c w.some-width k.asks k.numbers k.queries Zs w.queries_are w.queries_fit) in
      λ i. record { n = points-back i; d = coords-back i; c = width_back i; asks = asks_back i; vectors = vectors-back i; numbers = p i; queries = q i }

  pub required-back : required (sheet k) ≡ length (sheet_bits k)
  unfolding required
  required-back =
      rw (points-back, coords-back, width_back, asks_back) (sym (length-sheet_bits k w.vectors_are w.queries_are))

  length-sheet : length (sheet k) ≡ byte_count (required (sheet k))
  unfolding sheet
  length-sheet = length-bytes_of (sheet_bits k) ∙ ap byte_count (sym required-back)

  filling-back : filling (sheet k) ≡ 0
  unfolding filling field_at sheet filled
  filling-back =
      let m = byte_count (length (sheet_bits k)) * 8 - length (sheet_bits k) in
      rw (required-back, length-bytes_of (sheet_bits k), unpacked-bytes_of (sheet_bits k))
      (ap (λ (l : List Bool). number (take m l)) (drop_at (sheet_bits k) (zeros m) (length (sheet_bits k)) refl)
      ∙ ap number (take_all m (zeros m) (omega (arith, length-zeros m)))
      ∙ number-zeros m)

  -- the length that the header gives
  pub sheet-length : length (sheet k) ≡ sheet_length k.n k.d k.c k.asks
  unfolding sheet sheet_length
  sheet-length = length-bytes_of (sheet_bits k) ∙ ap byte_count (length-sheet_bits k w.vectors_are w.queries_are)

  -- and it is not refused
  pub sheet_read : sheet_refusal (sheet k) ≡ 0
  unfolding sheet_length
  sheet_read =
      read_none (sheet k)
      record {
        header = rw sheet-length (three k.n k.d k.c k.asks);
        few-asks = rw asks_back w.few-asks;
        long = length-sheet;
        unfilled = filling-back;
      }
