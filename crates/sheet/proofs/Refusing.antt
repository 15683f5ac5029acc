-- The writer's refusals: ask by ask, and what is known where there is none. Assumes nothing.
use Rattle.std.proofs.Common.{◌≡◌, ℕ, zero, suc, ◌/◌, ◌<◌, true, List, [], ◌∷◌, ◌++◌, ◌*◌, ◌+◌, length, take, drop, get_or, refl, sym, ap, ◌∙◌, arith}
use Rattle.std.specs.List.{concat}
use Rattle.std.specs.Simd.{first_chunks}
use Rattle.std.proofs.lemmas.List.{take-append-drop, length-take-le, length-drop}
use lib.Seq.{drop-drop}
use Rattle.rules.specs.Bits.{all_fit}
use Rattle.rules.specs.Sheet.{Contents}
use Rattle.rules.specs.Outcome.{or_else}
use Rattle.rules.specs.Refusals.{ask_refusal, asks_refusal}
use Rattle.laws.proofs.Refusals.{else_none}
use Rattle.laws.proofs.Numbers.{asks-suc}
use Rattle.laws.proofs.Writable.{Writable, shape_of, shaped}
use Rattle.space.specs.declared.refusal.Refusal.{Refusal}
use Rattle.space.specs.Told.{number}
use Rattle.space.proofs.Told.{stopped}

-- the refusal of as many asks as there are rows of four numbers
abbrev pub rows_refusal : List ℕ → ℕ
rows_refusal ns = asks_refusal (length ns / 4) ns

-- one ask, and then the others
pub ask_first : (row rest : List ℕ) → length row ≡ 4 → rows_refusal (row ++ rest) ≡ or_else (ask_refusal row) (rows_refusal rest)
unfolding ask_refusal
ask_first [] rest e = absurd (omega arith)
ask_first (a ∷ []) rest e = absurd (omega arith)
ask_first (a ∷ b ∷ []) rest e = absurd (omega arith)
ask_first (a ∷ b ∷ c ∷ []) rest e = absurd (omega arith)
ask_first (a ∷ b ∷ c ∷ d ∷ []) rest e =
    let ns = a ∷ b ∷ c ∷ d ∷ rest in
    let n : length ns / 4 ≡ suc (length rest / 4) = omega arith in
    ap (λ (k : ℕ). asks_refusal k ns) n ∙ asks-suc (length rest / 4) ns
ask_first (a ∷ b ∷ c ∷ d ∷ x ∷ row) rest e = absurd (omega arith)

-- `left` is what is left to look at, `all` the asks' refusal
module _ (left row rest : List ℕ) {all : ℕ} (so_far : rows_refusal left ≡ all) (is : left ≡ row ++ rest) (four : length row ≡ 4) where
  order : all ≡ or_else (ask_refusal row) (rows_refusal rest)
  order = sym so_far ∙ ap rows_refusal is ∙ ask_first row rest four

  pub ask_stops : (r : Refusal) → number r ≡ ask_refusal row → number r ≡ all
  ask_stops r e = stopped r _ order e

  pub ask_passes : 0 ≡ ask_refusal row → rows_refusal rest ≡ all
  ask_passes e = sym (order ∙ else_none (sym e) _)

pub asks_done : (left : List ℕ) {all : ℕ} → rows_refusal left ≡ all → length left < 4 → 0 ≡ all
unfolding asks_refusal
asks_done left so_far few = let e : length left / 4 ≡ 0 = omega arith in rw (e, asks_refusal) at so_far

-- ---- the rows that the numbers are cut into

-- a row, and where it begins
row_at : (k : ℕ) (ns : List ℕ) (i : ℕ) (d : List ℕ) → i < k → get_or (first_chunks 4 k ns) i d ≡ take 4 (drop (i * 4) ns)
row_at zero ns i d h = absurd (omega arith)
row_at (suc k) ns zero d h = refl
row_at (suc k) ns (suc i) d h =
    let n : 4 + i * 4 ≡ suc i * 4 = omega arith in
    row_at k (drop 4 ns) i d (omega arith) ∙ ap (take 4) (drop-drop (i * 4) 4 ns ∙ ap (λ (j : ℕ). drop j ns) n)

-- joined, the rows are the numbers again, where none are left over
pub rows_joined : (k : ℕ) (ns : List ℕ) → length ns ≡ 4 * k → concat (first_chunks 4 k ns) ≡ ns
rows_joined zero [] e = refl
rows_joined zero (n ∷ ns) e = absurd (omega arith)
rows_joined (suc k) ns e =
    let l : length (drop 4 ns) ≡ 4 * k = rw length-drop (omega arith) in
    ap (λ (r : List ℕ). take 4 ns ++ r) (rows_joined k (drop 4 ns) l) ∙ take-append-drop 4 ns

pub joined_none : (rows : List (List ℕ)) → length rows ≡ 0 → length (concat rows) / 4 ≡ 0
joined_none [] e = refl
joined_none (row ∷ rows) e = absurd (omega arith)

-- each has four numbers
abbrev pub Fours : List (List ℕ) → Type 0
Fours [] = Unit
Fours (row ∷ rows) = (length row ≡ 4) × Fours rows

pub rows_four : (k : ℕ) (ns : List ℕ) → length ns ≡ 4 * k → Fours (first_chunks 4 k ns)
rows_four zero ns e = tt
rows_four (suc k) ns e = (length-take-le 4 ns (omega arith), rows_four k (drop 4 ns) (rw length-drop (omega arith)))

-- row i, where the rows before it give no refusal
module _ (ns : List ℕ) (rows : List (List ℕ)) (i : ℕ) (d : List ℕ) (are : rows ≡ first_chunks 4 (length ns / 4) ns) (here : i < length ns / 4)
    (so_far : rows_refusal (drop (i * 4) ns) ≡ rows_refusal ns) where
  abbrev left : List ℕ
  left = drop (i * 4) ns

  row_is : get_or rows i d ≡ take 4 left
  row_is = ap (λ (l : List (List ℕ)). get_or l i d) are ∙ row_at _ ns i d here

  four : length (take 4 left) ≡ 4
  four = length-take-le 4 left (rw length-drop (omega arith))

  pub row_stops : (r : Refusal) → number r ≡ ask_refusal (get_or rows i d) → number r ≡ rows_refusal ns
  row_stops r e = ask_stops left (take 4 left) (drop 4 left) so_far (sym (take-append-drop 4 left)) four r (e ∙ ap ask_refusal row_is)

  pub row_passes : 0 ≡ ask_refusal (get_or rows i d) → rows_refusal (drop ((i + 1) * 4) ns) ≡ rows_refusal ns
  row_passes e =
      let n : i * 4 + 4 ≡ (i + 1) * 4 = omega arith in
      rw (drop-drop 4 (i * 4) ns, n) at (ask_passes left (take 4 left) (drop 4 left) so_far (sym (take-append-drop 4 left)) four (e ∙ ap ask_refusal row_is))

-- contents whose shape, asks and values give no refusal can be written
pub accepted : (k : Contents) → 0 ≡ shape_of k → 0 ≡ rows_refusal k.numbers → all_fit k.c k.vectors ≡ true → all_fit k.c k.queries ≡ true → Writable k
accepted k shape given vectors queries =
    let s = shaped k (sym shape) in
    let n : length k.numbers / 4 ≡ k.asks = omega (arith, s.numbers_are) in
    record {
      some-points = s.points.0;
      few-points = s.points.1;
      some-coordinates = s.coordinates.0;
      few-coordinates = s.coordinates.1;
      some-width = s.width.0;
      few-width = s.width.1;
      few-asks = s.asks-few;
      numbers_are = s.numbers_are;
      vectors_are = s.vectors_are;
      queries_are = s.queries_are;
      asks_fit = rw n at (sym given);
      vectors_fit = vectors;
      queries_fit = queries;
    }
