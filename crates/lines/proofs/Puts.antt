-- Bytes put at a place, one run after the other. Assumes nothing.
use Prim.Native.Nat.{ℕ, ◌+◌, ◌≤◌}
use native.Mathlib.Omega.{arith}
use mathlib.Core.Path.{◌≡◌, sym, ap, ◌∙◌}
use mathlib.Core.List.{List, [], ◌∷◌, ◌++◌, append_assoc}
use lib.ListN.{length, set, take, drop, length-append, length-drop, take-append-drop}
use lib.Seq.{length-take-le, take_at, drop_at, drop-append-add, drop-drop}
use Rattle.std.proofs.lemmas.List.{drop-set-lt}
use Rattle.std.proofs.lemmas.Grind.{take-set_at}
use Rattle.lines.specs.Placing.{put}

pub length-put : (at : ℕ) (l old : List ℕ) → at + length l ≤ length old → length (put at l old) ≡ length old
unfolding put
length-put at l old h =
    length-append (take at old) (l ++ drop (at + length l) old)
    ∙ omega (arith, length-take-le at old (omega arith), length-append l (drop (at + length l) old), length-drop (at + length l) old)

pub put-none : (at : ℕ) (old : List ℕ) → put at [] old ≡ old
unfolding put
put-none at old = let e : at + 0 ≡ at = omega arith in rw e (take-append-drop at old)

-- a run, and then another
pub put-append : (at : ℕ) (a b old : List ℕ) → at + length a ≤ length old → put (at + length a) b (put at a old) ≡ put at (a ++ b) old
unfolding put
put-append at a b old h =
    let before = take at old in
    let past = drop (at + length a) old in
    let after = drop (at + length (a ++ b)) old in
    let t = length-take-le at old (omega arith) in
    let front : length (before ++ a) ≡ at + length a = length-append before a ∙ omega arith in
    let more : length (before ++ a) + length b ≡ at + length (a ++ b) = omega (arith, length-append a b) in
    let shape : before ++ (a ++ past) ≡ (before ++ a) ++ past = sym (append_assoc before a past) in
    let rest : drop (at + length a + length b) ((before ++ a) ++ past) ≡ after =
    rw (sym front) (drop-append-add (before ++ a) (drop (length (before ++ a)) old) (length b))
    ∙ drop-drop (length b) (length (before ++ a)) old
    ∙ ap (λ (n : ℕ). drop n old) more in
    let joined : (before ++ a) ++ (b ++ after) ≡ before ++ ((a ++ b) ++ after) =
    append_assoc before a (b ++ after) ∙ ap (λ (l : List ℕ). before ++ l) (sym (append_assoc a b after)) in
    rw shape (rw (take_at (before ++ a) past (at + length a) front, rest) joined)

-- a byte that is set, and a run written behind it: what is before the end, what comes after it, and how long it all is
pub set_then :
    (at y : ℕ) (l old : List ℕ) (start : ℕ) {end : ℕ} (new : List ℕ) → end ≡ at + length (y ∷ l) → end ≤ length old → start + length l ≡ end →
    drop start new ≡ l ++ drop end (set old at y) → take start new ≡ take start (set old at y) →
    (take end new ≡ take at old ++ (y ∷ l)) × (drop end new ≡ drop end old) × (length new ≡ length old)
set_then at y l old start {end} new e fits s written before =
    let front = before ∙ take-set_at old at start y (omega arith) (omega arith) in
    let back = written ∙ ap (λ (xs : List ℕ). l ++ xs) (drop-set-lt end old at y (omega arith)) in
    let whole = take at old ++ (y ∷ l) in
    let shape : new ≡ whole ++ drop end old =
    sym (take-append-drop start new)
    ∙ ap (λ (xs : List ℕ). xs ++ drop start new) front
    ∙ ap (λ (xs : List ℕ). (take at old ++ (y ∷ [])) ++ xs) back
    ∙ append_assoc (take at old) (y ∷ []) (l ++ drop end old)
    ∙ sym (append_assoc (take at old) (y ∷ l) (drop end old)) in
    let long : length whole ≡ end = length-append (take at old) (y ∷ l) ∙ omega (arith, length-take-le at old (omega arith)) in (
      ap (take end) shape ∙ take_at whole (drop end old) end long,
      ap (drop end) shape ∙ drop_at whole (drop end old) end long,
      ap length shape ∙ length-append whole (drop end old) ∙ omega (arith, length-drop end old),
    )
