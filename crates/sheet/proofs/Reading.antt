-- Reading a sheet whose header was read, field after field. Assumes nothing.
use Rattle.std.proofs.Common.{◌≡◌, ℕ, ◌+◌, ◌*◌, ◌^◌, ◌≤◌, ◌<◌, List, [], ◌∷◌, take, drop, refl, sym, ap, ◌∙◌, arith}
use lib.Seq.{drop-drop}
use mir.Syntax.{w16}
use mir.Val.{Fits}
use Rattle.rules.specs.Bits.{number, values, unpacked}
use Rattle.rules.specs.Sheet.{bit_count, coords, width, ask_count, field_at, numbers_in, ask_place, ask_numbers, ask_query}
use Rattle.rules.specs.Refusals.{sheet_refusal, one_ask_refusal}
use Rattle.rules.specs.Entries.{numbers_of}
use Rattle.laws.proofs.Refusals.{else_none}
use borrow.Author.Tests.{lt-leb, eq-eqb}
use Rattle.laws.proofs.Fields.{field_lt, points-small, coords-small, width_small}
use Rattle.laws.proofs.Writable.{FewProducts, few_products}
use Rattle.sheet.specs.declared.Head.{Head}
use Rattle.sheet.specs.declared.place.Place.{Place}
use Rattle.sheet.specs.declared.Numbers.{Numbers}
use Rattle.sheet.specs.Answers.{head_of, row_of, four_of}
use Rattle.sheet.specs.Past.{past_at}

-- ---- a header that was read

module _ (ys : List ℕ) (h : Head) (said : h ≡ head_of ys) where
  pub head_small : (h.n ≤ 128) × (h.d ≤ 64) × (1 ≤ h.c) × (h.c ≤ 8)
  head_small =
      omega (arith, ap (λ (x : Head). x.n) said, ap (λ (x : Head). x.d) said, ap (λ (x : Head). x.c) said, points-small ys, coords-small ys, width_small ys)

  pub products_small : (i : ℕ) → i ≤ 127 → FewProducts h.n h.d h.c i
  products_small i few = few_products h.n h.d h.c i head_small.0 head_small.1 head_small.3 few

  -- the vectors' cells, and the bits that their values take
  pub vectors_small : (cells : ℕ) → cells ≡ h.n * h.d → 24 + cells * h.c < 2 ^ 20
  vectors_small cells e =
      let f : cells * h.c ≡ h.n * h.d * h.c = ap (λ (x : ℕ). x * h.c) e in
      omega (arith, products_small 0 (omega arith))

  -- an ask's place, and the bits that its query's values take
  pub query_small : (i place cells : ℕ) → i < h.asks → h.asks ≤ 127 → place ≡ bit_count h.n h.d h.c i → cells ≡ h.d → place + 36 + cells * h.c < 2 ^ 20
  unfolding bit_count
  query_small i place cells l few is e =
      let f : cells * h.c ≡ h.d * h.c = ap (λ (x : ℕ). x * h.c) e in
      omega (arith, products_small i (omega arith))

-- ---- fields that are read from a place on

module _ (p : Place) (small : p.next < 2 ^ 20) where
  -- the place that stands k bits further on
  pub record After (k : ℕ) (q : Place) : Type 0 where
    pub same : q.sheet ≡ p.sheet
    pub next : q.next ≡ p.next + k

  pub after_more : (k w : ℕ) (q r : Place) → k + w ≤ 36 → After k q → r.sheet ≡ q.sheet → r.next ≡ past_at q.next w → After (k + w) r
  after_more k w q r few a same next = record { same = same ∙ a.same; next = omega (arith, a.next, next) }

  pub field_after : (k w : ℕ) (q : Place) → After k q → field_at q.sheet.now q.next w ≡ number (take w (drop k (drop p.next (unpacked p.sheet.now))))
  unfolding field_at
  field_after k w q a = rw (a.same, a.next, drop-drop k p.next (unpacked p.sheet.now))

  -- four numbers of an ask
  module _ (q₁ q₂ q₃ : Place) {s w k t : ℕ} (s₁ : q₁.sheet ≡ p.sheet) (m₁ : q₁.next ≡ past_at p.next 7) (s₂ : q₂.sheet ≡ q₁.sheet) (m₂ : q₂.next ≡ past_at q₁.next 7)
      (s₃ : q₃.sheet ≡ q₂.sheet) (m₃ : q₃.next ≡ past_at q₂.next 7) where
    pub numbers_read : s ≡ field_at p.sheet.now p.next 7 → w ≡ field_at q₁.sheet.now q₁.next 7 → k ≡ field_at q₂.sheet.now q₂.next 7 → t ≡ field_at q₃.sheet.now q₃.next 15
        → s ∷ (w + 1) ∷ (k + 1) ∷ t ∷ [] ≡ numbers_in (drop p.next (unpacked p.sheet.now))
    unfolding numbers_in
    numbers_read es ew ek et =
        let a₀ : After 0 p = record { same = refl; next = omega arith } in
        let a₁ : After 7 q₁ = after_more 0 7 p q₁ (omega arith) a₀ s₁ m₁ in
        let a₂ : After 14 q₂ = after_more 7 7 q₁ q₂ (omega arith) a₁ s₂ m₂ in
        let a₃ : After 21 q₃ = after_more 14 7 q₂ q₃ (omega arith) a₂ s₃ m₃ in
        let f₀ = es ∙ field_after 0 7 p a₀ in
        let f₁ = ew ∙ field_after 7 7 q₁ a₁ in
        let f₂ = ek ∙ field_after 14 7 q₂ a₂ in
        let f₃ = et ∙ field_after 21 15 q₃ a₃ in
        cc

-- a field of 7 bits has room for one more
pub seven : (ys : List ℕ) (at : ℕ) {v : ℕ} → v ≡ field_at ys at 7 → Fits w16 (v + 1)
seven ys at e = record { fits = omega (arith, e, field_lt ys at 7) }

-- ---- one ask: what is read at its place

module _ (ys : List ℕ) (h : Head) (said : h ≡ head_of ys) (i : ℕ) where
  place_is : bit_count h.n h.d h.c i ≡ ask_place ys i
  unfolding bit_count ask_place
  place_is = rw said

  pub ask_free : (room : ℕ) → 0 ≡ sheet_refusal ys → i < h.asks → room ≡ h.d → 0 ≡ one_ask_refusal ys i room
  unfolding one_ask_refusal
  ask_free room none l e =
      sym (else_none (sym none) _ ∙ rw (lt-leb (ask_count ys) i (rw said at l), eq-eqb room (coords ys) (rw said at e)))

  module _ (p : Place) (of : p.sheet.now ≡ ys) where
    pub ask_is : (a : Numbers) → p.next ≡ bit_count h.n h.d h.c i → row_of a ≡ numbers_in (drop p.next (unpacked p.sheet.now))
        → four_of a ≡ numbers_of (ask_numbers ys i)
    unfolding numbers_of ask_numbers
    ask_is a is row = rw (is, of, place_is) at (ap numbers_of row)

    pub query_is : (cells : ℕ) → cells ≡ h.d → p.next ≡ bit_count h.n h.d h.c i + 36
        → values h.c cells (drop p.next (unpacked p.sheet.now)) ≡ ask_query ys i
    unfolding ask_query
    query_is cells e is =
        rw (is, of, e, place_is, said) (ap (values (width ys) (coords ys)) (sym (drop-drop 36 (ask_place ys i) (unpacked ys))))
