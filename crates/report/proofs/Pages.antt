-- Lines placed one after the other on a page. Assumes nothing.
use Prim.Native.Nat.{ℕ, ◌+◌, ◌≤◌, ◌<◌}
use native.Mathlib.Omega.{arith}
use mathlib.Core.Path.{◌≡◌, refl, sym, ap, subst, ◌∙◌}
use mathlib.Core.Logic.{⊎_elim}
use mathlib.Core.List.{List, [], ◌++◌}
use lib.ListN.{length, take, drop, length-append}
use lib.Seq.{take_at}
use Rattle.laws.proofs.Tests.{le_or_lt}
use Rattle.std.specs.Prelude.{Result, Ok, Err}
use Rattle.lines.specs.declared.TooShort.{TooShort}
use Rattle.lines.specs.Placing.{too_short, ending, put, placed_answer, placed_after}
use Rattle.lines.proofs.Puts.{length-put, put-none, put-append}
use Rattle.lines.proofs.Ends.{ends_in, ended, past, ends_then, short_then, after_in, after_past}
use Rattle.report.specs.Pages.{Paged}

-- bytes by another name
pub placed_as :
    (at : ℕ) (l m old : List ℕ) {new : List ℕ} {r : Result ℕ TooShort} → l ≡ m → (r ≡ placed_answer at l old) × (new ≡ placed_after at l old) →
    (r ≡ placed_answer at m old) × (new ≡ placed_after at m old)
placed_as at l m old e h = (h.0 ∙ ap (λ (x : List ℕ). placed_answer at x old) e, h.1 ∙ ap (λ (x : List ℕ). placed_after at x old) e)

after-size : (at : ℕ) (l old : List ℕ) → length (placed_after at l old) ≡ length old
after-size at l old =
    ⊎_elim
    (λ (h : at + length l ≤ length old). ap length (after_in at l old h) ∙ length-put at l old h)
    (λ (h : length old < at + length l). ap length (after_past at l old h))
    (le_or_lt (at + length l) (length old))

-- what is placed is on the page
pub paged : (at : ℕ) (l m old : List ℕ) {new : List ℕ} {r : Result ℕ TooShort}
    → l ≡ m
    → (r ≡ placed_answer at l old) × (new ≡ placed_after at l old)
    → Paged at m old new r
unfolding placed_answer
paged at l m old e h = record {
  answers = h.0 ∙ ap (λ (x : List ℕ). ending at (length x) (length old)) e;
  holds = λ k. h.1 ∙ ap (λ (x : List ℕ). placed_after at x old) e ∙ after_in at m old k;
  size = ap length h.1 ∙ after-size at l old;
}

-- nothing is on the page
pub paged_none : (at : ℕ) (old : List ℕ) → at ≤ length old → Paged at [] old old (Ok at)
paged_none at old h =
    let e : at + 0 ≡ at = omega arith in
    record {
      answers = ap Ok (sym e) ∙ sym (ends_in at 0 (length old) (omega arith));
      holds = λ k. sym (put-none at old);
      size = refl;
    }

-- bytes, and then more
pub paged_more : {at next : ℕ} {a b old mid new : List ℕ} {r : Result ℕ TooShort}
    → Paged at a old mid (Ok next)
    → Paged next b mid new r
    → Paged at (a ++ b) old new r
paged_more {at} {next} {a} {b} {old} {mid} {new} {r} x y =
    let f = ended at (length a) (length old) x.answers in
    let z = x.size in
    let ends = ends_then at (length a) (length b) (length old) x.answers (y.answers ∙ ap (ending next (length b)) z) in
    record {
      answers = ends ∙ ap (λ (m : ℕ). ending at m (length old)) (sym (length-append a b));
      holds = λ k. y.holds (omega (arith, k, f.1, length-append a b)) ∙ rw (x.holds f.0, f.1) (put-append at a b old f.0);
      size = y.size ∙ z;
    }

-- what does not end on the page does not with more after it
pub paged_short : {at : ℕ} {a old mid : List ℕ} → Paged at a old mid (Err too_short) → (b : List ℕ) → Paged at (a ++ b) old mid (Err too_short)
paged_short {at} {a} {old} {mid} x b =
    let p = past at (length a) (length old) x.answers in
    let l = length-append a b in
    record {
      answers = short_then at (length a) (length b) (length old) x.answers ∙ ap (λ (m : ℕ). ending at m (length old)) (sym l);
      holds = λ k. absurd (omega (arith, k));
      size = x.size;
    }

pub paged_as : {at : ℕ} {old new : List ℕ} {r : Result ℕ TooShort} (l m : List ℕ) → l ≡ m → Paged at l old new r → Paged at m old new r
paged_as {at} {old} {new} {r} l m e x = record {
  answers = x.answers ∙ ap (λ (y : List ℕ). ending at (length y) (length old)) e;
  holds = λ k. x.holds (rw e k) ∙ ap (λ (y : List ℕ). put at y old) e;
  size = x.size;
}

-- what stands at the front of a page
pub paged_front : {l old new : List ℕ} {next : ℕ} → Paged 0 l old new (Ok next) → (next ≤ length new) × (take next new ≡ l)
unfolding put
paged_front {l} {old} {new} {next} x =
    let f = ended 0 (length l) (length old) x.answers in
    let n : next ≡ length l = omega (arith, f.1) in
    (omega (arith, x.size, f.0, f.1), ap (take next) (x.holds f.0) ∙ take_at l (drop (0 + length l) old) next (sym n))

-- the answer by another name
pub paged_told : {at : ℕ} {l old new : List ℕ} {r r' : Result ℕ TooShort} → r ≡ r' → Paged at l old new r → Paged at l old new r'
paged_told {at} {l} {old} {new} e x = subst (λ (p : Result ℕ TooShort). Paged at l old new p) e x
