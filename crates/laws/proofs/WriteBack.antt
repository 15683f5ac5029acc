-- Writing what was read of a sheet gives back its bytes. Assumes nothing.
use mathlib.Core.Path.{◌≡◌, sym, ap, ◌∙◌}
use mathlib.Core.Bool.{Bool}
use mathlib.Core.List.{List}
use Prim.Native.Nat.{ℕ, ◌+◌, ◌-◌, ◌*◌, ◌≤◌}
use native.Mathlib.Omega.{arith}
use lib.ListN.{length, take, drop, length-drop, take-append-drop}
use lib.Seq.{take_all, length-take-le, drop-drop, take-add}
use Rattle.rules.specs.Bits.{number, zeros, value_bits, unpacked, byte_count, filled, bytes_of, Bytes}
use Rattle.rules.specs.Sheet.{head_bits, sheet_bits, sheet, bit_count, sheet_length, field_at, points, coords, width, ask_count}
use Rattle.rules.specs.Sheet.{required, filling, vectors_of, ask_place, contents_of}
use Rattle.rules.specs.Refusals.{sheet_refusal, writer_refusal}
use Rattle.laws.proofs.Bits.{zeros_of_number}
use Rattle.laws.proofs.Values.{length-values, value_bits-back, values_fit}
use Rattle.laws.proofs.Packing.{length-unpacked, packed-unpacked}
use Rattle.laws.proofs.Fields.{points-small, coords-small, width_small}
use Rattle.laws.proofs.Writable.{Writable, not-refused, Readable, readable}
use Rattle.laws.proofs.FourFields.{row_again, less_one}
use Rattle.laws.proofs.Asks.{asks_again, asks_fit, queries_fit, length-all_numbers, length-all_queries}

module _ (ys : List ℕ) (ok : sheet_refusal ys ≡ 0) where
  abbrev U : List Bool
  U = unpacked ys

  p : Readable ys
  p = readable ys ok

  -- the sheet has all the bits that the header requires
  enough : required ys ≤ length U
  unfolding byte_count
  enough = rw (length-unpacked ys) (omega (arith, p.long))

  abbrev ndc : ℕ
  ndc = points ys * coords ys * width ys

  abbrev each : ℕ
  each = 36 + coords ys * width ys

  long : 24 + (ndc + ask_count ys * each) ≤ length U
  unfolding required bit_count
  long = enough

  width_0 : 1 ≤ width ys
  width_0 = (width_small ys).0

  head_again : head_bits (points ys) (coords ys) (width ys) (ask_count ys) ≡ take 24 U
  unfolding head_bits points coords width ask_count field_at
  head_again =
      let h : 24 ≤ length U = omega (arith, long) in
      rw (less_one (number (take 7 (drop 0 U))), less_one (number (take 6 (drop 7 U))), less_one (number (take 3 (drop 13 U)))) (row_again 7 6 3 8 U h)

  vectors_again : value_bits (width ys) (vectors_of ys) ≡ take ndc (drop 24 U)
  unfolding vectors_of
  vectors_again = value_bits-back (width ys) width_0 (points ys * coords ys) (drop 24 U) (rw (length-drop 24 U) (omega (arith, long)))

  place : ask_place ys 0 ≡ 24 + ndc
  unfolding ask_place
  place = omega arith

  rest-long : ask_count ys * each ≤ length (drop (ask_place ys 0) U)
  rest-long = rw (length-drop (ask_place ys 0) U, place) (omega (arith, long))

  written : sheet_bits (contents_of ys) ≡ take (required ys) U
  unfolding sheet_bits contents_of required bit_count
  written =
      rw (
        head_again,
        vectors_again,
        asks_again (coords ys) (width ys) width_0 (ask_count ys) (drop (ask_place ys 0) U) rest-long,
        place,
        take-add 24 (ndc + ask_count ys * each) U,
        take-add ndc (ask_count ys * each) (drop 24 U),
        drop-drop ndc 24 U,
      )

  -- the filling is zero bits
  filling-is : drop (required ys) U ≡ zeros (length ys * 8 - required ys)
  unfolding filling field_at
  filling-is =
      let last = drop (required ys) U in
      let m = length ys * 8 - required ys in
      let l : length last ≡ m = rw (length-drop, length-unpacked) in
      let a : take m last ≡ last = take_all m last (omega arith) in
      zeros_of_number last (ap number (sym a) ∙ p.unfilled) ∙ ap zeros l

  -- WRITING WHAT WAS READ
  pub write_back : Bytes ys → sheet (contents_of ys) ≡ ys
  unfolding sheet bytes_of filled
  write_back small =
      let l : length (take (required ys) U) ≡ required ys = length-take-le (required ys) U enough in
      rw (written, l, ← p.long, ← filling-is, take-append-drop (required ys) U) (packed-unpacked ys small)

  -- and what was read can be written
  pub read_writable : Writable (contents_of ys)
  unfolding contents_of vectors_of
  read_writable =
      record {
        some-points = (points-small ys).0;
        few-points = (points-small ys).1;
        some-coordinates = (coords-small ys).0;
        few-coordinates = (coords-small ys).1;
        some-width = width_0;
        few-width = (width_small ys).1;
        few-asks = p.few-asks;
        numbers_are = length-all_numbers (coords ys) (width ys) (ask_count ys) (drop (ask_place ys 0) U);
        vectors_are = length-values (width ys) (points ys * coords ys) (drop 24 U);
        queries_are = length-all_queries (coords ys) (width ys) (ask_count ys) (drop (ask_place ys 0) U);
        asks_fit = asks_fit (coords ys) (width ys) width_0 (ask_count ys) (drop (ask_place ys 0) U);
        vectors_fit = values_fit (width ys) width_0 (points ys * coords ys) (drop 24 U);
        queries_fit = queries_fit (coords ys) (width ys) width_0 (ask_count ys) (drop (ask_place ys 0) U);
      }

  -- into any output that has room for its bytes it is not refused
  pub write_again : (output : ℕ) → length ys ≤ output
      → writer_refusal (points ys) (coords ys) (width ys) (ask_count ys) (contents_of ys).vectors (contents_of ys).numbers (contents_of ys).queries output ≡ 0
  unfolding sheet_length required contents_of
  write_again output room = not-refused (contents_of ys) output read_writable (omega (arith, p.long))
