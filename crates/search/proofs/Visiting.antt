-- A visit: the marks stand for a state of the search, and a visit changes both alike. Assumes nothing.
use Prim.Native.Nat.{ℕ, ◌<◌}
use mathlib.Core.Path.{◌≡◌, refl, sym, ap, ◌∙◌}
use mathlib.Core.Logic.{⊎_elim}
use mathlib.Core.Bool.{Bool, true, false, cond, not, ◌&&◌, ◌||◌, false≢true}
use mathlib.Core.List.{List, [], ◌∷◌, ◌++◌, map}
use lib.Dec.{leb, eqb}
use lib.ListN.{length, get_or, set, length-set}
use lib.Seq.{get_or-set_same, get_or-set_other}
use borrow.Author.Tests.{eqb-true, eq-eqb, ne_eqb, eqb-false}
use Rattle.rules.specs.Order.{on}
use Rattle.rules.specs.Search.{State, waiting, visit}
use Rattle.laws.proofs.Tests.{both, and_false, or_r, or_false}
use Rattle.laws.proofs.Order.{firsts_same}
use Rattle.laws.proofs.Visits.{on_snoc}
use Rattle.search.specs.declared.see.Mark.{Mark}
use Rattle.search.specs.declared.see.Mark.TheVariants.{Unseen, Waiting, Walked}
use Rattle.search.specs.Line.{waits, sees, is_waiting, is_seen}
use Rattle.search.specs.Seen.{Lined, marked_at, Marked}
use Rattle.search.proofs.Marks.{waiting_seen, sees-same, sees-other, waits-same, waits-other}

-- the marks stand for the state s
pub record Holds (n : ℕ) (s : State) (marks : List Mark) : Type 0 where
  pub seen : (y : ℕ) → y < n → s.seen y ≡ sees marks y
  pub waits : (y : ℕ) → y < n → waiting s y ≡ waits marks y

-- ---- x goes on the trail

-- an id that waits is seen
pub waits-sees : (marks : List Mark) (x : ℕ) → waits marks x ≡ true → sees marks x ≡ true
waits-sees marks x w = waiting_seen _ w

module _ (marks : List Mark) (x : ℕ) (lx : x < length marks) (w : waits marks x ≡ true) where
  sees-still : (y : ℕ) → sees marks y ≡ sees (set marks x Walked) y
  sees-still y =
      ⊎_elim
      (λ e. let q = eqb-true y x e in rw q (waits-sees marks x w ∙ sym (sees-same marks x Walked lx)))
      (λ e. sym (sees-other marks x Walked y (eqb-false y x e)))
      (both (eqb y x))

  waits-less : (y : ℕ) → waits marks y ≡ false → waits (set marks x Walked) y ≡ false
  waits-less y f =
      ⊎_elim
      (λ e. let q = eqb-true y x e in rw q (waits-same marks x Walked lx))
      (λ e. waits-other marks x Walked y (eqb-false y x e) ∙ f)
      (both (eqb y x))

  -- the line stays as it is
  pub mark_lined : {n : ℕ} {key : ℕ → ℕ} {line : List ℕ} {from : ℕ} → Lined n key marks line from → Lined n key (set marks x Walked) line from
  mark_lined {n} {key} h = record {
    marks_size = length-set marks x Walked ∙ h.marks_size;
    keys = h.keys ∙ ap (map key) (firsts_same key n n (sees marks) (sees (set marks x Walked)) (λ y l. sees-still y));
    from_in = h.from_in;
    passed = λ i l. waits-less _ (h.passed i l);
  }

-- ---- the state and the marks

-- one mark f, after an edge e was followed
mark_seen : (f : Mark) (e : Bool) → is_seen f || e ≡ is_seen (cond (not (is_seen f) && e) Waiting f)
mark_seen Unseen true = refl
mark_seen Unseen false = refl
mark_seen Waiting e = refl
mark_seen Walked e = refl

-- o says that the id is on the trail
mark_waits : (f : Mark) (e o : Bool) → (o ≡ true → is_seen f ≡ true) → is_seen f && not o ≡ is_waiting f →
    (is_seen f || e) && not o ≡ is_waiting (cond (not (is_seen f) && e) Waiting f)
mark_waits Unseen true true s w = absurd (false≢true (s refl))
mark_waits Unseen true false s w = refl
mark_waits Unseen false o s w = refl
mark_waits Waiting e o s w = w
mark_waits Walked e o s w = w

module _ (n : ℕ) (edge : ℕ → ℕ → Bool) (row : List ℕ) (m x : ℕ) (s : State) (marks new : List Mark) (len : x < length marks) (lx : x < n)
    (sx : s.seen x ≡ true) (sound : (y : ℕ) → on s.trail y ≡ true → s.seen y ≡ true)
    (same : (y : ℕ) → y < n → (y ≡ x → ⊥) → edge x y ≡ leb (get_or row y 0) m)
    (marked : Marked n row m (set marks x Walked) new) (h : Holds n s marks) where
  -- the mark of x, and that of another id
  new_self : get_or new x Unseen ≡ Walked
  new_self = marked.each x lx ∙ rw (get_or-set_same marks x Walked Unseen len)

  new_other : (y : ℕ) → y < n → (y ≡ x → ⊥) → get_or new y Unseen ≡ marked_at row m marks y
  new_other y l d = marked.each y l ∙ rw (get_or-set_other marks x y Walked Unseen d)

  pub visit-holds : Holds n (visit edge s x) new
  unfolding visit waiting
  visit-holds = record {
    seen = λ y l.
        ⊎_elim
        (λ e. let q = eqb-true y x e in rw (q, new_self, sx))
        (λ e.
        let d = eqb-false y x e in
        rw (new_other y l d, h.seen y l, same y l d) (mark_seen (get_or marks y Unseen) (leb (get_or row y 0) m)))
        (both (eqb y x));
    waits = λ y l.
        ⊎_elim
        (λ e.
        let q = eqb-true y x e in
        let here : on (s.trail ++ (x ∷ [])) x ≡ true = on_snoc s.trail x x ∙ or_r (on s.trail x) (eqb x x) (eq-eqb x x refl) in
        rw (q, new_self, here) (and_false (s.seen x || edge x x)))
        (λ e.
        let d = eqb-false y x e in
        let off : on (s.trail ++ (x ∷ [])) y ≡ on s.trail y = on_snoc s.trail x y ∙ rw (ne_eqb x y (λ q. d (sym q))) (or_false (on s.trail y)) in
        let stays = rw (h.seen y l) at (h.waits y l) in
        rw
        (new_other y l d, h.seen y l, same y l d, off)
        (mark_waits (get_or marks y Unseen) (leb (get_or row y 0) m) (on s.trail y) (λ o. sym (h.seen y l) ∙ sound y o) stays))
        (both (eqb y x));
  }
