-- An ask's four numbers: when they are refused, reading what was written, and writing what was read. Assumes nothing.
use mathlib.Core.Path.{◌≡◌, refl, sym, ap, ◌∙◌}
use mathlib.Core.Bool.{Bool}
use mathlib.Core.List.{List, [], ◌∷◌, ◌++◌}
use Prim.Native.Nat.{ℕ, suc, ◌+◌, ◌-◌, ◌≤◌, ◌<◌}
use native.Mathlib.Omega.{arith}
use lib.Dec.{ltb, leb}
use borrow.Author.Tests.{le-ltb, lt-leb, ltb-false, leb-false}
use lib.ListN.{length, take, drop, get_or, length-append}
use Rattle.rules.specs.Bits.{number}
use Rattle.rules.specs.Sheet.{number_bits, numbers_in}
use Rattle.rules.specs.Outcome.{or_else}
use Rattle.rules.specs.Refusals.{outside, ask_refusal, asks_refusal}
use Rattle.laws.proofs.Refusals.{else_both, skipped, inside}
use Rattle.laws.proofs.Bits.{length-bits, taken_small}
use Rattle.laws.proofs.FourFields.{row_1, row_2, row_3, row_4, row_again, less_one}

pub length-number_bits : (ns : List ℕ) → length (number_bits ns) ≡ 36
unfolding number_bits
length-number_bits ns = simp (length-append, length-bits)

pub four : (ns : List ℕ) → 4 ≤ length ns → take 4 ns ≡ get_or ns 0 0 ∷ get_or ns 1 0 ∷ get_or ns 2 0 ∷ get_or ns 3 0 ∷ []
four [] h = absurd (omega arith)
four (a ∷ []) h = absurd (omega arith)
four (a ∷ b ∷ []) h = absurd (omega arith)
four (a ∷ b ∷ c ∷ []) h = absurd (omega arith)
four (a ∷ b ∷ c ∷ d ∷ ns) h = refl

list4 : {a b c d x y z w : ℕ} → a ≡ x → b ≡ y → c ≡ z → d ≡ w → ◌≡◌ {A = List ℕ} (a ∷ b ∷ c ∷ d ∷ []) (x ∷ y ∷ z ∷ w ∷ [])
list4 e f g h = λ i. e i ∷ f i ∷ g i ∷ h i ∷ []

-- what is known of an ask's numbers that the writer does not refuse, and that they are not refused where it holds
pub record AskOk (ns : List ℕ) : Type 0 where
  pub start : get_or ns 0 0 < 128
  pub some-width : 1 ≤ get_or ns 1 0
  pub few-width : get_or ns 1 0 ≤ 128
  pub some-k : 1 ≤ get_or ns 2 0
  pub few-k : get_or ns 2 0 ≤ 128
  pub threshold : get_or ns 3 0 ≤ 32767

pub ask_ok : (ns : List ℕ) → ask_refusal ns ≡ 0 → AskOk ns
unfolding ask_refusal
ask_ok ns e =
    let a = skipped (leb 128 (get_or ns 0 0)) 5 _ e in
    let b = skipped (outside 1 128 (get_or ns 1 0)) 6 _ a.1 in
    let c = skipped (outside 1 128 (get_or ns 2 0)) 7 _ b.1 in
    let d = skipped (ltb 32767 (get_or ns 3 0)) 8 _ c.1 in
    let w = inside 1 128 (get_or ns 1 0) b.0 in
    let k = inside 1 128 (get_or ns 2 0) c.0 in
    record {
      start = leb-false 128 (get_or ns 0 0) a.0;
      some-width = w.0;
      few-width = w.1;
      some-k = k.0;
      few-k = k.1;
      threshold = ltb-false 32767 (get_or ns 3 0) d.0;
    }

pub ask-none : (ns : List ℕ) → AskOk ns → ask_refusal ns ≡ 0
unfolding ask_refusal
ask-none ns o =
    rw (
      lt-leb 128 (get_or ns 0 0) o.start,
      le-ltb (get_or ns 1 0) 1 o.some-width,
      le-ltb 128 (get_or ns 1 0) o.few-width,
      le-ltb (get_or ns 2 0) 1 o.some-k,
      le-ltb 128 (get_or ns 2 0) o.few-k,
      le-ltb 32767 (get_or ns 3 0) o.threshold,
    )

pub asks-suc : (a : ℕ) (ns : List ℕ) → asks_refusal (suc a) ns ≡ or_else (ask_refusal ns) (asks_refusal a (drop 4 ns))
unfolding asks_refusal
asks-suc a ns = refl

-- no ask is refused: neither the first nor any of the others
pub asks_both : (a : ℕ) (ns : List ℕ) → asks_refusal (suc a) ns ≡ 0 → (ask_refusal ns ≡ 0) × (asks_refusal a (drop 4 ns) ≡ 0)
asks_both a ns e = else_both (ask_refusal ns) (asks_refusal a (drop 4 ns)) (sym (asks-suc a ns) ∙ e)

pub asks-join : (a : ℕ) (ns : List ℕ) → ask_refusal ns ≡ 0 → asks_refusal a (drop 4 ns) ≡ 0 → asks_refusal (suc a) ns ≡ 0
unfolding or_else
asks-join a ns e f = asks-suc a ns ∙ rw (e, or_else) f

pub numbers_of_lem : (ns : List ℕ) (rest : List Bool) → AskOk ns → 4 ≤ length ns → numbers_in (number_bits ns ++ rest) ≡ take 4 ns
unfolding numbers_in number_bits
numbers_of_lem ns rest f h =
    let a = get_or ns 0 0 in
    let b = get_or ns 1 0 in
    let c = get_or ns 2 0 in
    let d = get_or ns 3 0 in
    let e₂ : b - 1 + 1 ≡ b = omega (arith, f) in
    let e₃ : c - 1 + 1 ≡ c = omega (arith, f) in
    list4
    (row_1 7 7 7 15 a (b - 1) (c - 1) d rest (omega (arith, f)))
    (ap (λ (x : ℕ). x + 1) (row_2 7 7 7 15 a (b - 1) (c - 1) d rest (omega (arith, f))) ∙ e₂)
    (ap (λ (x : ℕ). x + 1) (row_3 7 7 7 15 a (b - 1) (c - 1) d rest (omega (arith, f))) ∙ e₃)
    (row_4 7 7 7 15 a (b - 1) (c - 1) d rest (omega (arith, f)))
    ∙ sym (four ns h)

pub numbers_again : (bs : List Bool) → 36 ≤ length bs → number_bits (numbers_in bs) ≡ take 36 bs
unfolding numbers_in number_bits
numbers_again bs h = rw (less_one (number (take 7 (drop 7 bs))), less_one (number (take 7 (drop 14 bs)))) (row_again 7 7 7 15 bs h)

-- only the first four numbers count
pub number_bits_front : (bs : List Bool) (more : List ℕ) → number_bits (numbers_in bs ++ more) ≡ number_bits (numbers_in bs)
unfolding numbers_in number_bits
number_bits_front bs more = refl

pub past_four : (bs : List Bool) (more : List ℕ) → drop 4 (numbers_in bs ++ more) ≡ more
unfolding numbers_in
past_four bs more = refl

pub length-numbers_in : (bs : List Bool) → length (numbers_in bs) ≡ 4
unfolding numbers_in
length-numbers_in bs = refl

pub numbers_fit : (bs : List Bool) (more : List ℕ) → AskOk (numbers_in bs ++ more)
unfolding numbers_in
numbers_fit bs more =
    let a = taken_small 7 bs in
    let b = taken_small 7 (drop 7 bs) in
    let c = taken_small 7 (drop 14 bs) in
    let d = taken_small 15 (drop 21 bs) in
    omega arith
