-- A key in its place: in a line, and behind a whole line that a push made longer. Assumes nothing.
use Prim.Native.Nat.{ℕ, suc, ◌+◌, ◌-◌, ◌≤◌, ◌<◌}
use native.Mathlib.Nat.{lt_irrefl, eq-or-lt_of_le}
use native.Mathlib.Omega.{arith}
use mathlib.Core.Path.{◌≡◌, sym, ap, ◌∙◌, subst}
use mathlib.Core.Logic.{⊎_elim}
use mathlib.Core.List.{List, [], ◌∷◌, ◌++◌}
use lib.ListN.{length, get_or, take, drop, set, length-set, length-take, length-drop, length-append, get_or-append}
use lib.Seq.{get_or-set_same, get_or-set_other, get_or-take, get_or-drop, get_or_at, get_or-append-add, ext_get_or, take_all}
use Rattle.std.proofs.Math.Seq.{take-append_seam}
use Rattle.laws.proofs.Tests.{le_or_lt}
use Rattle.search.specs.Line.{Slot, Shifted, Put}

-- ---- a key in its place

-- a number x put at place r of a list of m numbers, read at place i
module _ (old : List ℕ) (m x r : ℕ) (room : m < length old) (within : r ≤ m) where
  front : length (take r (take m old)) ≡ r
  front = simp (length-take, length-take) (omega arith)

  at_low : (i : ℕ) → i < r → get_or (take r (take m old) ++ (x ∷ drop r (take m old))) i 0 ≡ get_or old i 0
  at_low i l =
      get_or-append (take r (take m old)) _ 0 i (omega (arith, front))
      ∙ get_or-take r (take m old) i 0 l
      ∙ get_or-take m old i 0 (omega arith)

  at_up : (j : ℕ) → r + j < m → get_or (take r (take m old) ++ (x ∷ drop r (take m old))) (r + j + 1) 0 ≡ get_or old (r + j) 0
  at_up j l =
      let e : r + j + 1 ≡ length (take r (take m old)) + suc j = omega (arith, front) in
      rw
      e
      (get_or-append-add (take r (take m old)) (x ∷ drop r (take m old)) (suc j) 0
      ∙ get_or-drop r (take m old) j 0
      ∙ get_or-take m old (r + j) 0 l)

pub put-there : (old new new' : List ℕ) (m x r : ℕ) → m < length old → Shifted old m x r new → new' ≡ set new r x → Put old m x r new'
put-there old new new' m x r room h q = record {
  slot = h.slot;
  size = ap length q ∙ length-set new r x ∙ h.moved.size;
  keys = rw q (ext_get_or 0 _ _ sizes (λ i l. get_or-take (m + 1) (set new r x) i 0 (short i l) ∙ cells i (short i l)));
}
  where
    sizes : length (take (m + 1) (set new r x)) ≡ length (take r (take m old) ++ (x ∷ drop r (take m old)))
    sizes = simp (length-append, length-take, length-drop, length-set) (omega (arith, h.moved.size, h.slot.within))

    short : (i : ℕ) → i < length (take (m + 1) (set new r x)) → i < m + 1
    short i l = omega (arith, l, length-take (m + 1) (set new r x))

    cells : (i : ℕ) → i < m + 1 → get_or (set new r x) i 0 ≡ get_or (take r (take m old) ++ (x ∷ drop r (take m old))) i 0
    cells i l =
        ⊎_elim
        (λ (k : r ≤ i). ⊎_elim
        (λ (e : r ≡ i).
        let at_r = get_or_at (take r (take m old)) x _ 0 r (front old m x r room h.slot.within) in
        rw (← e) (get_or-set_same new r x 0 (omega (arith, h.moved.size, h.slot.within)) ∙ sym at_r))
        (λ (g : r < i).
        let f : i ≡ r + (i - r - 1) + 1 = omega arith in
        get_or-set_other new r i x 0 (λ s. lt_irrefl i (omega arith))
        ∙ rw f (h.moved.up (r + (i - r - 1)) (omega arith) (omega arith) ∙ sym (at_up old m x r room h.slot.within (i - r - 1) (omega arith))))
        (eq-or-lt_of_le k))
        (λ (k : i < r).
        get_or-set_other new r i x 0 (λ s. lt_irrefl i (omega arith)) ∙ h.moved.low i k ∙ sym (at_low old m x r room h.slot.within i k))
        (le_or_lt r i)

-- ---- behind a whole line

pub record Entered (line : List ℕ) (x r : ℕ) (line' : List ℕ) : Type 0 where
  pub slot : Slot line (length line) x r
  pub keys : line' ≡ take r line ++ (x ∷ drop r line)

pub entered : (line line' : List ℕ) (x r : ℕ) → Put (line ++ (x ∷ [])) (length (line ++ (x ∷ [])) - 1) x r line' → Entered line x r line'
entered line line' x r p = record {
  slot = record {
    within = omega (arith, p.slot.within, size);
    larger = λ i a b. rw (← front i b) (p.slot.larger i a (omega (arith, size)));
    not-larger = λ i e. rw (← front i (omega (arith, size, p.slot.within))) (p.slot.not-larger i e);
  };
  keys = sym (take_all (length (line ++ (x ∷ [])) - 1 + 1) line' (omega (arith, p.size, size)))
      ∙ p.keys
      ∙ ap (λ (l : List ℕ). take r l ++ (x ∷ drop r l)) before;
}
  where
    size : length (line ++ (x ∷ [])) ≡ length line + 1
    size = length-append line (x ∷ [])

    front : (i : ℕ) → i < length line → get_or (line ++ (x ∷ [])) i 0 ≡ get_or line i 0
    front i l = get_or-append line (x ∷ []) 0 i l

    before : take (length (line ++ (x ∷ [])) - 1) (line ++ (x ∷ [])) ≡ line
    before = let e : length (line ++ (x ∷ [])) - 1 ≡ length line = omega (arith, size) in rw e (take-append_seam line (x ∷ []))

-- as the line is when it was put there by way of the slice that it lends
pub written_back : {line pushed lent line' : List ℕ} {key x r : ℕ} → pushed ≡ line ++ (key ∷ []) → lent ≡ pushed → key ≡ x →
    Put lent (length lent - 1) key r line' → Entered line x r (take (length pushed) (line' ++ drop (length line') pushed))
written_back {line} {pushed} {lent} {line'} {key} {x} {r} p l k put =
    let new = subst (λ (t : List ℕ). Put t (length t - 1) key r line') (l ∙ p) put in
    let size : length line' ≡ length pushed = put.size ∙ ap length l in
    let whole : take (length pushed) (line' ++ drop (length line') pushed) ≡ line' =
    rw (← size) (take-append_seam line' (drop (length line') pushed)) in
    rw (whole, ← k) (entered line line' key r new)
