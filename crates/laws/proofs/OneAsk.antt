-- One ask of a sheet is that part of the sheet's contents. Assumes nothing.
use mathlib.Core.Path.{◌≡◌, sym, ap, ◌∙◌}
use mathlib.Core.Bool.{Bool}
use mathlib.Core.List.{List, ◌++◌}
use Prim.Native.Nat.{ℕ, zero, suc, ◌+◌, ◌*◌, ◌<◌}
use native.Mathlib.Omega.{arith}
use lib.ListN.{take, drop}
use lib.Seq.{take_at, drop_at, drop-drop}
use Rattle.rules.specs.Bits.{values, unpacked}
use Rattle.rules.specs.Sheet.{numbers_in, all_numbers, all_queries, points, coords, width, ask_count, ask_place, ask_numbers, ask_query, contents_of}
use Rattle.laws.proofs.Values.{length-values}
use Rattle.laws.proofs.Numbers.{length-numbers_in}
use Rattle.laws.proofs.Asks.{all_numbers-suc, all_queries-suc}

module _ (d c : ℕ) where
  numbers-part : (i a : ℕ) (bs : List Bool) → i < a → take 4 (drop (4 * i) (all_numbers d c a bs)) ≡ numbers_in (drop (i * (36 + d * c)) bs)
  numbers-part i zero bs h = absurd (omega arith)
  numbers-part zero (suc a) bs h =
      let e : 0 * (36 + d * c) ≡ 0 = omega arith in
      rw (all_numbers-suc d c a bs, e) (take_at (numbers_in bs) (all_numbers d c a (drop (36 + d * c) bs)) 4 (length-numbers_in bs))
  numbers-part (suc i) (suc a) bs h =
      let e : 4 * suc i ≡ 4 + 4 * i = omega arith in
      let f : suc i * (36 + d * c) ≡ 36 + d * c + i * (36 + d * c) = omega arith in
      rw (
        all_numbers-suc d c a bs,
        e,
        ← (drop-drop (4 * i) 4 (numbers_in bs ++ all_numbers d c a (drop (36 + d * c) bs))),
        drop_at (numbers_in bs) (all_numbers d c a (drop (36 + d * c) bs)) 4 (length-numbers_in bs),
        f,
        ← (drop-drop (i * (36 + d * c)) (36 + d * c) bs),
      )
      (numbers-part i a (drop (36 + d * c) bs) (omega arith))

  queries-part : (i a : ℕ) (bs : List Bool) → i < a → take d (drop (i * d) (all_queries d c a bs)) ≡ values c d (drop 36 (drop (i * (36 + d * c)) bs))
  queries-part i zero bs h = absurd (omega arith)
  queries-part zero (suc a) bs h =
      let e : 0 * (36 + d * c) ≡ 0 = omega arith in
      let g : 0 * d ≡ 0 = omega arith in
      rw (all_queries-suc d c a bs, e, g) (take_at (values c d (drop 36 bs)) (all_queries d c a (drop (36 + d * c) bs)) d (length-values c d (drop 36 bs)))
  queries-part (suc i) (suc a) bs h =
      let e : suc i * d ≡ d + i * d = omega arith in
      let f : suc i * (36 + d * c) ≡ 36 + d * c + i * (36 + d * c) = omega arith in
      rw (
        all_queries-suc d c a bs,
        e,
        ← (drop-drop (i * d) d (values c d (drop 36 bs) ++ all_queries d c a (drop (36 + d * c) bs))),
        drop_at (values c d (drop 36 bs)) (all_queries d c a (drop (36 + d * c) bs)) d (length-values c d (drop 36 bs)),
        f,
        ← (drop-drop (i * (36 + d * c)) (36 + d * c) bs),
      )
      (queries-part i a (drop (36 + d * c) bs) (omega arith))

module _ (ys : List ℕ) (i : ℕ) (h : i < ask_count ys) where
  place : drop (ask_place ys i) (unpacked ys) ≡ drop (i * (36 + coords ys * width ys)) (drop (ask_place ys 0) (unpacked ys))
  unfolding ask_place
  place =
      let e : 24 + (points ys * coords ys * width ys + i * (36 + coords ys * width ys))
      ≡ 24 + (points ys * coords ys * width ys + 0 * (36 + coords ys * width ys)) + i * (36 + coords ys * width ys) = omega arith in
      rw (e) (sym (drop-drop (i * (36 + coords ys * width ys)) _ (unpacked ys)))

  -- ask i's numbers are the i-th four of the contents', and its query the i-th d values
  pub one_numbers : ask_numbers ys i ≡ take 4 (drop (4 * i) (contents_of ys).numbers)
  unfolding ask_numbers contents_of
  one_numbers = ap numbers_in place ∙ sym (numbers-part (coords ys) (width ys) i (ask_count ys) (drop (ask_place ys 0) (unpacked ys)) h)

  pub one_query : ask_query ys i ≡ take (coords ys) (drop (i * coords ys) (contents_of ys).queries)
  unfolding ask_query contents_of
  one_query =
      ap (λ (u : List Bool). values (width ys) (coords ys) (drop 36 u)) place
      ∙ sym (queries-part (coords ys) (width ys) i (ask_count ys) (drop (ask_place ys 0) (unpacked ys)) h)
