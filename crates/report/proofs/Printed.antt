-- All that is printed for a sheet, refused or not. Assumes nothing.
use Prim.Native.Nat.{ℕ, zero, suc, ◌≤◌}
use native.Mathlib.Omega.{arith}
use mathlib.Core.Path.{◌≡◌, refl, sym, ap, ◌∙◌}
use mathlib.Core.List.{List, ◌++◌}
use Rattle.rules.specs.Outcome.{refused, gives, outcome}
use Rattle.rules.specs.Points.{apart}
use Rattle.rules.specs.Labels.{table_of}
use Rattle.rules.specs.Sheet.{points, coords, ask_count, vectors_of}
use Rattle.rules.specs.Refusals.{sheet_refusal}
use Rattle.rules.specs.Entries.{Header, header_answer}
use Rattle.rules.specs.Lines.{set_line, refused_line}
use Rattle.rules.specs.Program.{asks_lines, printed}
use Rattle.laws.proofs.Fields.{points-small, coords-small}
use Rattle.laws.proofs.Refusals.{outcome-none, outcome_value}
use Rattle.std.specs.Prelude.{Result, Ok, Err}
use Rattle.space.specs.declared.refusal.Refusal.{Refusal}
use Rattle.sheet.specs.declared.Head.{Head}
use Rattle.sheet.specs.Answers.{head_told}
use Rattle.lines.specs.declared.TooShort.{TooShort}
use Rattle.lines.specs.Placing.{too_short}
use Rattle.report.specs.Pages.{Paged, SheetGiven}
use Rattle.report.proofs.Pages.{paged_more, paged_short, paged_as}

pub printed-set :
    (ys : List ℕ) → sheet_refusal ys ≡ 0 →
    printed ys ≡ set_line (points ys) (coords ys) (ask_count ys) ++ asks_lines ys (table_of (apart (coords ys) (vectors_of ys)) (points ys)) (ask_count ys)
unfolding printed
printed-set ys e = rw (printed, e)

pub printed-refused : (ys : List ℕ) (r : ℕ) → sheet_refusal ys ≡ suc r → printed ys ≡ refused_line (suc r)
unfolding printed
printed-refused ys r e = rw (printed, e)

module _ (ys : List ℕ) where
  refused-by : (r v : ℕ) (x : Header) → sheet_refusal ys ≡ v → refused r ≡ outcome v x → printed ys ≡ refused_line r
  unfolding outcome
  refused-by r zero x e q = let z : ◌≡◌ {A = ℕ} 0 1 = cc in absurd (omega arith)
  refused-by r (suc v) x e q = let s : suc v ≡ r = cc in printed-refused ys v e ∙ ap refused_line s

  -- the line of a refused sheet, whose number the code has by another name
  pub sheet-refused : (r q : ℕ) → refused r ≡ header_answer ys → q ≡ r → refused_line q ≡ printed ys
  unfolding header_answer
  sheet-refused r q e eq = rw eq (sym (refused-by r (sheet_refusal ys) _ refl e))

  pub record Headed (n d asks : ℕ) : Type 0 where
    pub given : SheetGiven ys n d (vectors_of ys)
    pub asks_are : asks ≡ ask_count ys
    pub few-points : n ≤ 128
    pub few-coordinates : d ≤ 64

  pub sheet_headed : (n d c asks : ℕ) → gives (record { n = n; d = d; c = c; asks = asks }) ≡ header_answer ys → Headed n d asks
  unfolding header_answer
  sheet_headed n d c asks e =
      let header : Header = record { n = n; d = d; c = c; asks = asks } in
      let same = outcome_value (sheet_refusal ys) _ header (sym e) in
      let en : n ≡ points ys = ap (λ (x : Header). x.n) (sym same) in
      let ed : d ≡ coords ys = ap (λ (x : Header). x.d) (sym same) in
      record {
        given = record { readable = outcome-none (sheet_refusal ys) _ header (sym e); n-is = en; d-is = ed; vectors_are = refl };
        asks_are = ap (λ (x : Header). x.asks) (sym same);
        few-points = rw en (points-small ys).1;
        few-coordinates = rw ed (coords-small ys).1;
      }

-- the same by what the header's reader answers
pub read_head : {ys : List ℕ} {r : Result Head Refusal} {h : Head} → r ≡ Ok h → head_told r ≡ header_answer ys → Headed ys h.n h.d h.asks
read_head {ys} {h = h} e told = sheet_headed ys h.n h.d h.c h.asks (ap head_told (sym e) ∙ told)

-- the `set` line, and then the asks' lines on the set's own table
pub whole_set :
    {ys table old mid new : List ℕ} {n d asks next : ℕ} {r : Result ℕ TooShort} → SheetGiven ys n d (vectors_of ys) → asks ≡ ask_count ys →
    table ≡ table_of (apart (coords ys) (vectors_of ys)) (points ys) → Paged 0 (set_line n d asks) old mid (Ok next) →
    Paged next (asks_lines ys table asks) mid new r → Paged 0 (printed ys) old new r
whole_set {ys} {table} {n = n} {d = d} {asks = asks} h a t x y =
    let same : set_line n d asks ++ asks_lines ys table asks ≡ printed ys = rw (h.n-is, h.d-is, a, t) (sym (printed-set ys h.readable)) in
    paged_as (set_line n d asks ++ asks_lines ys table asks) (printed ys) same (paged_more x y)

pub whole-short :
    {ys old mid : List ℕ} {n d asks : ℕ} → SheetGiven ys n d (vectors_of ys) → asks ≡ ask_count ys → Paged 0 (set_line n d asks) old mid (Err too_short) →
    Paged 0 (printed ys) old mid (Err too_short)
whole-short {ys} {n = n} {d = d} {asks = asks} h a x =
    let table = table_of (apart (coords ys) (vectors_of ys)) (points ys) in
    let same : set_line n d asks ++ asks_lines ys table asks ≡ printed ys = rw (h.n-is, h.d-is, a) (sym (printed-set ys h.readable)) in
    paged_as (set_line n d asks ++ asks_lines ys table asks) (printed ys) same (paged_short x (asks_lines ys table asks))
