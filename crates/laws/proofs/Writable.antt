-- What a sheet's contents are where the writer does not refuse them, and what a sheet is where reading does not refuse it. Assumes nothing.
use mathlib.Core.Path.{◌≡◌, refl, sym, ◌∙◌}
use mathlib.Core.Bool.{true, not, ◌&&◌, ◌||◌}
use mathlib.Core.List.{List, [], ◌∷◌}
use Prim.Native.Nat.{ℕ, ◌+◌, ◌*◌, ◌≤◌}
use native.Mathlib.Nat.{mul-le-mul}
use native.Mathlib.Omega.{arith}
use lib.ListN.{length}
use lib.Dec.{ltb}
use borrow.Author.Tests.{le-ltb, ltb-false, eq-eqb, not-false}
use Rattle.rules.specs.Bits.{byte_count, all_fit}
use Rattle.rules.specs.Sheet.{Contents, bit_count, sheet_length, points, coords, width, ask_count, required, filling}
use Rattle.rules.specs.Outcome.{or_else, first_of}
use Rattle.rules.specs.Refusals.{outside, differ, refuse1, refuse2, refuse3, refuse5, refuse11, refuse12, refuse13, refuse14}
use Rattle.rules.specs.Refusals.{asks_refusal, writer_refusal, sheet_refusal}
use Rattle.laws.proofs.Tests.{or_off, or_off_r, and_l, and_r}
use Rattle.laws.proofs.Refusals.{else_both, skipped, inside, alike}

-- ---- what is known of contents that are written

pub record Writable (k : Contents) : Type 0 where
  pub some-points : 1 ≤ k.n
  pub few-points : k.n ≤ 128
  pub some-coordinates : 1 ≤ k.d
  pub few-coordinates : k.d ≤ 64
  pub some-width : 1 ≤ k.c
  pub few-width : k.c ≤ 8
  pub few-asks : k.asks ≤ 127
  pub numbers_are : length k.numbers ≡ 4 * k.asks
  pub vectors_are : length k.vectors ≡ k.n * k.d
  pub queries_are : length k.queries ≡ k.asks * k.d
  pub asks_fit : asks_refusal k.asks k.numbers ≡ 0
  pub vectors_fit : all_fit k.c k.vectors ≡ true
  pub queries_fit : all_fit k.c k.queries ≡ true

-- the writer's order in three parts. The limits and the lengths: 1, 2, 11, 12, 3, 5
unfoldable pub shape_of : Contents → ℕ
shape_of k =
    first_of
    (refuse1 k.n
    ∷ refuse2 k.d
    ∷ refuse11 k.c
    ∷ refuse12 k.asks (length k.numbers)
    ∷ refuse3 k.n k.d (length k.vectors)
    ∷ refuse5 (k.asks * k.d) (length k.queries)
    ∷ [])

-- then ask by ask
abbrev pub asks_of : Contents → ℕ
asks_of k = asks_refusal k.asks k.numbers

-- and last 13 and 14
abbrev pub length_of : Contents → ℕ
length_of k = sheet_length k.n k.d k.c k.asks

abbrev pub last_of : Contents → ℕ → ℕ
last_of k output = first_of (refuse13 k.c k.vectors k.queries ∷ refuse14 (length_of k) output ∷ [])

abbrev pub refusal_at : Contents → ℕ → ℕ
refusal_at k output = writer_refusal k.n k.d k.c k.asks k.vectors k.numbers k.queries output

pub in_parts : (k : Contents) (output : ℕ) → refusal_at k output ≡ or_else (shape_of k) (or_else (asks_of k) (last_of k output))
unfolding writer_refusal shape_of
in_parts k output = refl

-- what is known where the first part gives no refusal
pub record Shaped (k : Contents) : Type 0 where
  pub points : (1 ≤ k.n) × (k.n ≤ 128)
  pub coordinates : (1 ≤ k.d) × (k.d ≤ 64)
  pub width : (1 ≤ k.c) × (k.c ≤ 8)
  pub asks-few : k.asks ≤ 127
  pub numbers_are : length k.numbers ≡ 4 * k.asks
  pub vectors_are : length k.vectors ≡ k.n * k.d
  pub queries_are : length k.queries ≡ k.asks * k.d

pub shaped : (k : Contents) → shape_of k ≡ 0 → Shaped k
unfolding shape_of
shaped k e =
    let many = ltb 127 k.asks in
    let unlike = differ (length k.numbers) (4 * k.asks) in
    let p₁ = skipped (outside 1 128 k.n) 0 _ e in
    let p₂ = skipped (outside 1 64 k.d) 1 _ p₁.1 in
    let p₃ = skipped (outside 1 8 k.c) 10 _ p₂.1 in
    let p₄ = skipped (many || unlike) 11 _ p₃.1 in
    let p₅ = skipped (differ (length k.vectors) (k.n * k.d)) 2 _ p₄.1 in
    let p₆ = skipped (differ (length k.queries) (k.asks * k.d)) 4 _ p₅.1 in
    record {
      points = inside 1 128 k.n p₁.0;
      coordinates = inside 1 64 k.d p₂.0;
      width = inside 1 8 k.c p₃.0;
      asks-few = ltb-false 127 k.asks (or_off many unlike p₄.0);
      numbers_are = alike (length k.numbers) (4 * k.asks) (or_off_r many unlike p₄.0);
      vectors_are = alike (length k.vectors) (k.n * k.d) p₅.0;
      queries_are = alike (length k.queries) (k.asks * k.d) p₆.0;
    }

-- contents that are not refused, with room for the sheet
pub writable : (k : Contents) (output : ℕ) → refusal_at k output ≡ 0 → Writable k × (length_of k ≤ output)
writable k output e =
    let fit = all_fit k.c k.vectors && all_fit k.c k.queries in
    let p = else_both (shape_of k) (or_else (asks_of k) (last_of k output)) (sym (in_parts k output) ∙ e) in
    let q = else_both (asks_of k) (last_of k output) p.1 in
    let s = shaped k p.0 in
    let x = skipped (not fit) 12 _ q.1 in
    let y = skipped (ltb output (length_of k)) 13 _ x.1 in
    let all = not-false fit x.0 in (
      record {
        some-points = s.points.0;
        few-points = s.points.1;
        some-coordinates = s.coordinates.0;
        few-coordinates = s.coordinates.1;
        some-width = s.width.0;
        few-width = s.width.1;
        few-asks = s.asks-few;
        numbers_are = s.numbers_are;
        vectors_are = s.vectors_are;
        queries_are = s.queries_are;
        asks_fit = q.0;
        vectors_fit = and_l (all_fit k.c k.vectors) (all_fit k.c k.queries) all;
        queries_fit = and_r (all_fit k.c k.vectors) (all_fit k.c k.queries) all;
      },
      ltb-false output (length_of k) y.0,
    )

-- and the other way round
pub not-refused : (k : Contents) (output : ℕ) → Writable k → length_of k ≤ output → refusal_at k output ≡ 0
unfolding writer_refusal or_else
not-refused k output w room =
    rw (
      le-ltb k.n 1 w.some-points,
      le-ltb 128 k.n w.few-points,
      le-ltb k.d 1 w.some-coordinates,
      le-ltb 64 k.d w.few-coordinates,
      le-ltb k.c 1 w.some-width,
      le-ltb 8 k.c w.few-width,
      le-ltb 127 k.asks w.few-asks,
      eq-eqb (length k.numbers) (4 * k.asks) w.numbers_are,
      eq-eqb (length k.vectors) (k.n * k.d) w.vectors_are,
      eq-eqb (length k.queries) (k.asks * k.d) w.queries_are,
      w.asks_fit,
      w.vectors_fit,
      w.queries_fit,
      le-ltb output (length_of k) room,
    )

-- the largest sheet has 135,156 bits, in 16,895 bytes
abbrev pub FewProducts : (n d c asks : ℕ) → Type 0
FewProducts n d c asks = (n * d ≤ 8192) × (n * d * c ≤ 65536) × (d * c ≤ 512) × (asks * (36 + d * c) ≤ 69596)

pub few_products : (n d c asks : ℕ) → n ≤ 128 → d ≤ 64 → c ≤ 8 → asks ≤ 127 → FewProducts n d c asks
few_products n d c asks hn hd hc ha =
    let a : n * d ≤ 128 * 64 = mul-le-mul hn hd in
    let b : d * c ≤ 64 * 8 = mul-le-mul hd hc in
    let e : 36 + d * c ≤ 548 = omega arith in
    (a, mul-le-mul a hc, b, mul-le-mul ha e)

pub few_bits : (n d c asks : ℕ) → n ≤ 128 → d ≤ 64 → c ≤ 8 → asks ≤ 127 → bit_count n d c asks ≤ 135156
unfolding bit_count
few_bits n d c asks hn hd hc ha = omega (arith, few_products n d c asks hn hd hc ha)

pub few_bytes : (n d c asks : ℕ) → n ≤ 128 → d ≤ 64 → c ≤ 8 → asks ≤ 127 → sheet_length n d c asks ≤ 16895
unfolding sheet_length byte_count
few_bytes n d c asks hn hd hc ha = omega (arith, few_bits n d c asks hn hd hc ha)

-- ---- what is known of a sheet that is read

pub record Readable (ys : List ℕ) : Type 0 where
  pub header : 3 ≤ length ys
  pub few-asks : ask_count ys ≤ 127
  pub long : length ys ≡ byte_count (required ys)
  pub unfilled : filling ys ≡ 0

pub readable : (ys : List ℕ) → sheet_refusal ys ≡ 0 → Readable ys
unfolding sheet_refusal sheet_length required
readable ys e =
    let m = sheet_length (points ys) (coords ys) (width ys) (ask_count ys) in
    let a = skipped (ltb (length ys) 3) 14 _ e in
    let b = skipped (ltb 127 (ask_count ys)) 11 _ a.1 in
    let f = skipped (ltb (length ys) m) 14 _ b.1 in
    let g = skipped (ltb m (length ys)) 15 _ f.1 in
    let h = skipped (ltb 0 (filling ys)) 15 _ g.1 in
    record {
      header = ltb-false (length ys) 3 a.0;
      few-asks = ltb-false 127 (ask_count ys) b.0;
      long = omega (arith, ltb-false (length ys) m f.0, ltb-false m (length ys) g.0);
      unfilled = omega (arith, ltb-false 0 (filling ys) h.0);
    }

pub read_none : (ys : List ℕ) → Readable ys → sheet_refusal ys ≡ 0
unfolding sheet_refusal sheet_length required
read_none ys r =
    let m = byte_count (bit_count (points ys) (coords ys) (width ys) (ask_count ys)) in
    rw (
      le-ltb (length ys) 3 r.header,
      le-ltb 127 (ask_count ys) r.few-asks,
      le-ltb (length ys) m (omega (arith, r.long)),
      le-ltb m (length ys) (omega (arith, r.long)),
      r.unfilled,
    )
