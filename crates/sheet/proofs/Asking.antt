-- Asks put one after the other: those that are left, put where the pen is, give what all of them give. Assumes nothing.
use Rattle.std.proofs.Common.{◌≡◌, ℕ, zero, suc, ◌+◌, ◌*◌, ◌/◌, ◌<◌, true, Bool, List, [], ◌∷◌, ◌++◌, length, ℤ, refl, sym, ap, ◌∙◌, arith, length-append, append_assoc}
use lib.Seq.{take_at, drop_at}
use Rattle.rules.specs.Bits.{all_fit, value_bits}
use Rattle.rules.specs.Sheet.{Contents, number_bits, ask_bits}
use Rattle.rules.specs.Refusals.{ask_refusal}
use Rattle.laws.proofs.Values.{length-value_bits, fit_take, fit_drop}
use Rattle.laws.proofs.Refusals.{else_both}
use Rattle.laws.proofs.Numbers.{length-number_bits}
use Rattle.laws.proofs.Writable.{Writable}
use Rattle.laws.proofs.Asks.{ask_bits-suc}
use Rattle.sheet.specs.declared.put.Pen.{Pen}
use Rattle.sheet.specs.Put.{put_bits}
use Rattle.sheet.specs.Pen.{Puts, Room, asks_in}
use Rattle.sheet.proofs.Putting.{put_bits-append}
use Rattle.sheet.proofs.Refusing.{rows_refusal, ask_first}

-- ---- a pen that has put some of the bits `all`, where the bits `rest` are left: who puts them has put all

pub record Left (a b : Pen) (all rest : List Bool) : Type 0 where
  pub same : b.out.ghost_name ≡ a.out.ghost_name
  pub long : length b.out.now ≡ length a.out.now
  pub next : b.next + length rest ≡ a.next + length all
  pub out : put_bits b.out.now b.next rest ≡ put_bits a.out.now a.next all

pub left_room : (a b : Pen) (all u rest : List Bool) → Left a b all (u ++ rest) → Room a (length all) → Room b (length u)
left_room a b all u rest l r =
    let e = length-append u rest in
    record { room = omega (arith, l.next, l.long, r.room); small = omega (arith, l.next, r.small) }

pub left_more : (a b c : Pen) (all u rest : List Bool) → Left a b all (u ++ rest) → Puts b c u → Left a c all rest
left_more a b c all u rest l p =
    let e = length-append u rest in
    record {
      same = p.same ∙ l.same;
      long = p.long ∙ l.long;
      next = omega (arith, l.next, p.next);
      out = rw (p.next, p.out) (sym (put_bits-append b.out.now b.next u rest) ∙ l.out);
    }

pub left_end : (a b : Pen) (all : List Bool) → Left a b all [] → Puts a b all
unfolding put_bits
left_end a b all l = record { same = l.same; long = l.long; next = omega (arith, l.next); out = l.out }

-- ---- the asks that are left: their rows of four numbers, and their queries of d values

pub record Asks (d c : ℕ) (a b : Pen) (all : List Bool) (ns : List ℕ) (qs : List ℤ) : Type 0 where
  pub rows : length ns ≡ 4 * (length ns / 4)
  pub queries : length qs ≡ length ns / 4 * d
  pub given : rows_refusal ns ≡ 0
  pub fit : all_fit c qs ≡ true
  pub left : Left a b all (ask_bits d c (length ns / 4) ns qs)

-- all of them are left
pub asks_begin : (k : Contents) (p : Pen) → Writable k → Asks k.d k.c p p (asks_in k) k.numbers k.queries
asks_begin k p w =
    let n : length k.numbers / 4 ≡ k.asks = omega (arith, w.numbers_are) in
    record {
      rows = omega (arith, w.numbers_are);
      queries = rw n w.queries_are;
      given = rw n w.asks_fit;
      fit = w.queries_fit;
      left = rw n (record { same = refl; long = refl; next = refl; out = refl });
    }

pub asks_end : (d c : ℕ) (a b : Pen) (all : List Bool) (ns : List ℕ) (qs : List ℤ) → Asks d c a b all ns qs → length ns / 4 ≡ 0 → Puts a b all
unfolding ask_bits
asks_end d c a b all ns qs l none = left_end a b all (rw (none, ask_bits) at l.left)

-- there is none where the queries end
pub no_query : (d n : ℕ) (qs : List ℤ) → length qs ≡ n * d → length qs < d → n ≡ 0
no_query d zero qs e h = refl
no_query d (suc n) qs e h = absurd (omega arith)

number_bits-first : (row ns : List ℕ) → length row ≡ 4 → number_bits (row ++ ns) ≡ number_bits row
unfolding number_bits
number_bits-first (x ∷ y ∷ z ∷ w ∷ []) ns e = refl
number_bits-first [] ns e = absurd (omega arith)
number_bits-first (x ∷ []) ns e = absurd (omega arith)
number_bits-first (x ∷ y ∷ []) ns e = absurd (omega arith)
number_bits-first (x ∷ y ∷ z ∷ []) ns e = absurd (omega arith)
number_bits-first (x ∷ y ∷ z ∷ w ∷ v ∷ row) ns e = absurd (omega arith)

-- the next ask
module _ {d c : ℕ} {a b : Pen} {all : List Bool} {ns : List ℕ} {qs : List ℤ} (l : Asks d c a b all ns qs)
    (row ns' : List ℕ) (query qs' : List ℤ) (is-row : ns ≡ row ++ ns') (four : length row ≡ 4) (is-query : qs ≡ query ++ qs') (long : length query ≡ d) where
  abbrev one : List Bool
  one = number_bits row ++ value_bits c query

  count : length ns / 4 ≡ suc (length ns' / 4)
  count = let e = length-append row ns' in rw is-row (omega arith)

  both : (ask_refusal row ≡ 0) × (rows_refusal ns' ≡ 0)
  both = else_both _ _ (sym (ask_first row ns' four) ∙ (rw is-row at l.given))

  pub ask_given : ask_refusal row ≡ 0
  ask_given = both.0

  pub ask_fits : all_fit c query ≡ true
  ask_fits = rw (is-query, take_at query qs' d long) at (fit_take c d qs l.fit)

  next_is : ask_bits d c (length ns / 4) ns qs ≡ one ++ ask_bits d c (length ns' / 4) ns' qs'
  next_is =
      rw (count, ask_bits-suc d c (length ns' / 4) ns qs, is-row, is-query, number_bits-first row ns' four, drop_at row ns' 4 four, take_at query qs' d long, drop_at query qs' d long)
      (sym (append_assoc (number_bits row) (value_bits c query) _))

  pub ask_room : Room a (length all) → Room b (36 + length query * c)
  ask_room r =
      let e : length one ≡ 36 + length query * c = rw (length-append, length-number_bits, length-value_bits) in
      rw e at (left_room a b all one _ (rw next_is at l.left) r)

  pub asks_more : (b' : Pen) → Puts b b' one → Asks d c a b' all ns' qs'
  asks_more b' p =
      let e = length-append row ns' in
      let f = length-append query qs' in
      let n = ap length is-row in
      let m = ap length is-query in
      record {
        rows = omega (arith, l.rows, count);
        queries = omega (arith, l.queries, ap (λ (k : ℕ). k * d) count);
        given = both.1;
        fit = rw (is-query, drop_at query qs' d long) at (fit_drop c d qs l.fit);
        left = left_more a b b' all one _ (rw next_is at l.left) p;
      }
