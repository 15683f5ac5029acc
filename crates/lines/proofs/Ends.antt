-- Where runs of bytes end, one after the other. Assumes nothing.
use Rattle.std.proofs.Common.{◌≡◌, ℕ, ◌+◌, ◌<◌, ◌≤◌, List, ◌++◌, length, take, drop, Result, Ok, Err, IsErr, refl, sym, ap, ◌∙◌, arith, append_assoc, take-append-drop}
use mathlib.Core.Logic.{⊎_elim}
use borrow.Author.Tests.{le-leb, lt-leb}
use Rattle.std.proofs.lemmas.Bool.{false≢true}
use Rattle.lines.specs.declared.TooShort.{TooShort}
use Rattle.lines.specs.Placing.{too_short, ending, put, placed_answer, placed_after}
use Rattle.laws.proofs.Tests.{le_or_lt}

-- the error has one value
pub is_too_short : {r : Result ℕ TooShort} → IsErr r → Err too_short ≡ r
is_too_short {r = Ok n} q = absurd (false≢true q)
is_too_short {r = Err e} q = refl

pub ends_in : (at m limit : ℕ) → at + m ≤ limit → ending at m limit ≡ Ok (at + m)
unfolding ending
ends_in at m limit h = rw (ending, le-leb (at + m) limit h)

pub ends_past : (at m limit : ℕ) → limit < at + m → ending at m limit ≡ Err too_short
unfolding ending
ends_past at m limit h = rw (ending, lt-leb (at + m) limit h)

-- bytes that do not end past the limit
pub ended : (at m limit : ℕ) {next : ℕ} → Ok next ≡ ending at m limit → (at + m ≤ limit) × (next ≡ at + m)
ended at m limit {next} e =
    ⊎_elim
    (λ (h : at + m ≤ limit). (h, let q = e ∙ ends_in at m limit h in cc))
    (λ (h : limit < at + m). let q = e ∙ ends_past at m limit h in absurd cc)
    (le_or_lt (at + m) limit)

pub past : (at m limit : ℕ) {t : TooShort} → Err t ≡ ending at m limit → limit < at + m
past at m limit e =
    ⊎_elim
    (λ (h : at + m ≤ limit). let q = e ∙ ends_in at m limit h in absurd cc)
    (λ (h : limit < at + m). h)
    (le_or_lt (at + m) limit)

-- bytes, and then more
pub ends_then : (at m k limit : ℕ) {p : ℕ} {r : Result ℕ TooShort} → Ok p ≡ ending at m limit → r ≡ ending p k limit → r ≡ ending at (m + k) limit
ends_then at m k limit {p} e f =
    let g = ended at m limit e in
    let same : p + k ≡ at + (m + k) = omega (arith, g.1) in
    f
    ∙ ⊎_elim
    (λ (h : p + k ≤ limit). ends_in p k limit h ∙ ap Ok same ∙ sym (ends_in at (m + k) limit (omega arith)))
    (λ (h : limit < p + k). ends_past p k limit h ∙ sym (ends_past at (m + k) limit (omega arith)))
    (le_or_lt (p + k) limit)

pub short_then : (at m k limit : ℕ) {t : TooShort} → Err t ≡ ending at m limit → Err t ≡ ending at (m + k) limit
short_then at m k limit e = sym (ends_past at (m + k) limit (omega (arith, past at m limit e)))

-- ---- bytes that are placed

pub after_in : (at : ℕ) (l old : List ℕ) → at + length l ≤ length old → placed_after at l old ≡ put at l old
unfolding placed_after
after_in at l old h = rw (placed_after, le-leb (at + length l) (length old) h)

pub after_past : (at : ℕ) (l old : List ℕ) → length old < at + length l → placed_after at l old ≡ old
unfolding placed_after
after_past at l old h = rw (placed_after, lt-leb (at + length l) (length old) h)

-- what is before the end, and what comes after it
pub put_of : (at : ℕ) (l old : List ℕ) {end : ℕ} {new : List ℕ}
    → end ≡ at + length l
    → take end new ≡ take at old ++ l
    → drop end new ≡ drop end old
    → new ≡ put at l old
unfolding put
put_of at l old {end} {new} e front back =
    sym (take-append-drop end new)
    ∙ ap (λ (xs : List ℕ). xs ++ drop end new) front
    ∙ append_assoc (take at old) l (drop end new)
    ∙ ap (λ (xs : List ℕ). take at old ++ (l ++ xs)) (back ∙ ap (λ (n : ℕ). drop n old) e)

pub placed_all : (at : ℕ) (l old : List ℕ) {end : ℕ} {new : List ℕ}
    → at + length l ≤ length old
    → end ≡ at + length l
    → new ≡ put at l old
    → (Ok end ≡ placed_answer at l old) × (new ≡ placed_after at l old)
unfolding placed_answer
placed_all at l old fits e p = (ap Ok e ∙ sym (ends_in at (length l) (length old) fits), p ∙ sym (after_in at l old fits))

pub placed_none : (at : ℕ) (l old : List ℕ) {r : Result ℕ TooShort}
    → IsErr r
    → length old < at + length l
    → (r ≡ placed_answer at l old) × (old ≡ placed_after at l old)
unfolding placed_answer
placed_none at l old q h = (sym (is_too_short q) ∙ sym (ends_past at (length l) (length old) h), sym (after_past at l old h))
