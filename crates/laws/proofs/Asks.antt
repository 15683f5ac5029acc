-- The asks together: reading what was written, and writing what was read. Assumes nothing.
use mathlib.Core.Path.{◌≡◌, refl, sym, ap, ap₂, ◌∙◌}
use mathlib.Core.Bool.{Bool, true}
use mathlib.Core.List.{List, ◌++◌, append_assoc}
use Prim.Native.Nat.{ℕ, zero, suc, ◌+◌, ◌*◌, ◌≤◌}
use native.Mathlib.Omega.{arith}
use lib.ListN.{length, take, drop, length-append, length-drop, take-append-drop, drop_of_length-le}
use lib.Seq.{take_at, drop_at, length-take-le, drop-drop, take-add}
use lib.IntN.{ℤ}
use Rattle.rules.specs.Bits.{all_fit, value_bits, values}
use Rattle.rules.specs.Sheet.{number_bits, ask_bits, numbers_in, all_numbers, all_queries}
use Rattle.rules.specs.Refusals.{asks_refusal}
use Rattle.laws.proofs.Values.{length-value_bits, length-values, values-back, value_bits-back, values_fit, fit_take, fit_drop, fit_append}
use Rattle.laws.proofs.Numbers.{ask_ok, ask-none, asks_both, asks-join, numbers_of_lem, numbers_again, numbers_fit}
use Rattle.laws.proofs.Numbers.{length-number_bits, length-numbers_in, number_bits_front, past_four}

-- the asks' bits, from the first on
pub ask_bits-suc : (d c a : ℕ) (ns : List ℕ) (qs : List ℤ)
    → ask_bits d c (suc a) ns qs ≡ number_bits ns ++ (value_bits c (take d qs) ++ ask_bits d c a (drop 4 ns) (drop d qs))
unfolding ask_bits
ask_bits-suc d c a ns qs = refl

pub length-ask_bits : (d c a : ℕ) (ns : List ℕ) (qs : List ℤ) → a * d ≤ length qs → length (ask_bits d c a ns qs) ≡ a * (36 + d * c)
unfolding ask_bits
length-ask_bits d c zero ns qs h = omega arith
length-ask_bits d c (suc a) ns qs h =
    let l : length (take d qs) ≡ d = length-take-le d qs (omega arith) in
    let r : a * d ≤ length (drop d qs) = rw length-drop (omega arith) in
    rw (
      length-append (number_bits ns) (value_bits c (take d qs) ++ ask_bits d c a (drop 4 ns) (drop d qs)),
      length-append (value_bits c (take d qs)) (ask_bits d c a (drop 4 ns) (drop d qs)),
      length-number_bits,
      length-value_bits,
      l,
      length-ask_bits d c a (drop 4 ns) (drop d qs) r,
    )
    (omega arith)

-- an ask in front: its parts, and what follows it
module _ (d c : ℕ) (ns : List ℕ) (qs : List ℤ) (more : List Bool) (h : d ≤ length qs) where
  pub past_numbers : drop 36 (number_bits ns ++ (value_bits c (take d qs) ++ more)) ≡ value_bits c (take d qs) ++ more
  past_numbers = drop_at (number_bits ns) _ 36 (length-number_bits ns)

  pub past_ask : drop (36 + d * c) (number_bits ns ++ (value_bits c (take d qs) ++ more)) ≡ more
  past_ask =
      sym (drop-drop (d * c) 36 (number_bits ns ++ (value_bits c (take d qs) ++ more)))
      ∙ ap (drop (d * c)) past_numbers
      ∙ drop_at (value_bits c (take d qs)) more (d * c) (length-value_bits c (take d qs) ∙ ap (λ (x : ℕ). x * c) (length-take-le d qs h))

module _ (d c : ℕ) where
  pub all_numbers-suc : (a : ℕ) (bs : List Bool) → all_numbers d c (suc a) bs ≡ numbers_in bs ++ all_numbers d c a (drop (36 + d * c) bs)
  unfolding all_numbers
  all_numbers-suc a bs = refl

  pub all_queries-suc : (a : ℕ) (bs : List Bool) → all_queries d c (suc a) bs ≡ values c d (drop 36 bs) ++ all_queries d c a (drop (36 + d * c) bs)
  unfolding all_queries
  all_queries-suc a bs = refl

  pub length-all_numbers : (a : ℕ) (bs : List Bool) → length (all_numbers d c a bs) ≡ 4 * a
  unfolding all_numbers
  length-all_numbers zero bs = refl
  length-all_numbers (suc a) bs =
      let rest = drop (36 + d * c) bs in
      rw (length-append (numbers_in bs) (all_numbers d c a rest), length-numbers_in, length-all_numbers a rest) (omega arith)

  pub length-all_queries : (a : ℕ) (bs : List Bool) → length (all_queries d c a bs) ≡ a * d
  unfolding all_queries
  length-all_queries zero bs = omega arith
  length-all_queries (suc a) bs =
      let rest = drop (36 + d * c) bs in
      rw (length-append (values c d (drop 36 bs)) (all_queries d c a rest), length-values, length-all_queries a rest) (omega arith)

  -- what was written is read back, whatever follows
  pub numbers-back : (a : ℕ) (ns : List ℕ) (qs : List ℤ) (rest : List Bool) → length ns ≡ 4 * a → length qs ≡ a * d → asks_refusal a ns ≡ 0
      → all_numbers d c a (ask_bits d c a ns qs ++ rest) ≡ ns
  unfolding all_numbers
  numbers-back zero ns qs rest e q f = sym (drop_of_length-le ns {i = 0} (omega arith))
  numbers-back (suc a) ns qs rest e q f =
      let more = ask_bits d c a (drop 4 ns) (drop d qs) in
      let g : ask_bits d c (suc a) ns qs ++ rest ≡ number_bits ns ++ (value_bits c (take d qs) ++ (more ++ rest))
      = rw (ask_bits-suc d c a ns qs) (simp append_assoc) in
      ap (all_numbers d c (suc a)) g
      ∙ ap₂ (λ (x y : List ℕ). x ++ y)
      (numbers_of_lem ns (value_bits c (take d qs) ++ (more ++ rest)) (ask_ok ns (asks_both a ns f).0) (omega arith))
      (ap (all_numbers d c a) (past_ask d c ns qs (more ++ rest) (omega arith))
      ∙ numbers-back a (drop 4 ns) (drop d qs) rest (rw length-drop (omega arith)) (rw length-drop (omega arith)) (asks_both a ns f).1)
      ∙ take-append-drop 4 ns

  module _ (c-0 : 1 ≤ c) where
    pub queries-back : (a : ℕ) (ns : List ℕ) (qs : List ℤ) (rest : List Bool) → length qs ≡ a * d → all_fit c qs ≡ true
        → all_queries d c a (ask_bits d c a ns qs ++ rest) ≡ qs
    unfolding all_queries
    queries-back zero ns qs rest q f = sym (drop_of_length-le qs {i = 0} (omega arith))
    queries-back (suc a) ns qs rest q f =
        let more = ask_bits d c a (drop 4 ns) (drop d qs) in
        let g : ask_bits d c (suc a) ns qs ++ rest ≡ number_bits ns ++ (value_bits c (take d qs) ++ (more ++ rest))
        = rw (ask_bits-suc d c a ns qs) (simp append_assoc) in
        let l : length (take d qs) ≡ d = length-take-le d qs (omega arith) in
        ap (all_queries d c (suc a)) g
        ∙ ap₂ (λ (x y : List ℤ). x ++ y)
        (ap (values c d) (past_numbers d c ns qs (more ++ rest) (omega arith))
        ∙ ap (λ (m : ℕ). values c m (value_bits c (take d qs) ++ (more ++ rest))) (sym l)
        ∙ values-back c c-0 (take d qs) (more ++ rest) (fit_take c d qs f))
        (ap (all_queries d c a) (past_ask d c ns qs (more ++ rest) (omega arith))
        ∙ queries-back a (drop 4 ns) (drop d qs) rest (rw length-drop (omega arith)) (fit_drop c d qs f))
        ∙ take-append-drop d qs

    -- what was read is written again
    pub asks_again : (a : ℕ) (bs : List Bool) → a * (36 + d * c) ≤ length bs
        → ask_bits d c a (all_numbers d c a bs) (all_queries d c a bs) ≡ take (a * (36 + d * c)) bs
    unfolding ask_bits
    asks_again zero bs h = let e : 0 * (36 + d * c) ≡ 0 = omega arith in rw e
    asks_again (suc a) bs h =
        let rest = drop (36 + d * c) bs in
        let ns = all_numbers d c a rest in
        let vs = values c d (drop 36 bs) in
        let qs = all_queries d c a rest in
        let l : a * (36 + d * c) ≤ length rest = rw length-drop (omega arith) in
        let e : suc a * (36 + d * c) ≡ 36 + (d * c + a * (36 + d * c)) = omega arith in
        ap₂ (λ (x : List ℕ) (y : List ℤ). number_bits x ++ (value_bits c (take d y) ++ ask_bits d c a (drop 4 x) (drop d y)))
        (all_numbers-suc a bs)
        (all_queries-suc a bs)
        ∙ rw (
          number_bits_front bs ns,
          numbers_again bs (omega arith),
          past_four bs ns,
          take_at vs qs d (length-values c d (drop 36 bs)),
          drop_at vs qs d (length-values c d (drop 36 bs)),
          value_bits-back c c-0 d (drop 36 bs) (rw length-drop (omega arith)),
          asks_again a rest l,
          e,
          take-add 36 (d * c + a * (36 + d * c)) bs,
          take-add (d * c) (a * (36 + d * c)) (drop 36 bs),
          drop-drop (d * c) 36 bs,
        )

    pub asks_fit : (a : ℕ) (bs : List Bool) → asks_refusal a (all_numbers d c a bs) ≡ 0
    unfolding asks_refusal
    asks_fit zero bs = refl
    asks_fit (suc a) bs =
        let more = all_numbers d c a (drop (36 + d * c) bs) in
        rw (all_numbers-suc a bs)
        (asks-join a (numbers_in bs ++ more)
        (ask-none (numbers_in bs ++ more) (numbers_fit bs more))
        (rw (past_four bs more) (asks_fit a (drop (36 + d * c) bs))))

    pub queries_fit : (a : ℕ) (bs : List Bool) → all_fit c (all_queries d c a bs) ≡ true
    unfolding all_fit all_queries
    queries_fit zero bs = refl
    queries_fit (suc a) bs =
        fit_append c (values c d (drop 36 bs)) (all_queries d c a (drop (36 + d * c) bs))
        (values_fit c c-0 d (drop 36 bs))
        (queries_fit a (drop (36 + d * c) bs))
