-- The marks and the line at first, and when the start is seen. Assumes nothing.
use Prim.Native.Nat.{ℕ, zero, suc, ◌≤◌, ◌<◌}
use native.Mathlib.Nat.{lt_irrefl}
use native.Mathlib.Omega.{arith}
use mathlib.Core.Path.{◌≡◌, refl, sym, ap, ◌∙◌, fun_ext}
use mathlib.Core.Logic.{⊎_elim}
use mathlib.Core.Option.{none}
use mathlib.Core.List.{List, [], map}
use lib.Dec.{eqb}
use lib.ListN.{length, get_or, set, replicate}
use borrow.Author.Tests.{eqb-true, eqb-false, eq-eqb}
use Rattle.rules.specs.Order.{first}
use Rattle.laws.proofs.Tests.{both, never}
use Rattle.laws.proofs.Order.{first_some, first_cases, firsts-none}
use Rattle.search.specs.declared.see.Mark.{Mark}
use Rattle.search.specs.declared.see.Mark.TheVariants.{Unseen, Waiting}
use Rattle.search.specs.Line.{waits, sees, is_seen, is_waiting}
use Rattle.search.specs.Rest.{reached}
use Rattle.search.specs.Seen.{Lined, IsFresh}
use Rattle.search.proofs.Listing.{reached_new}
use Rattle.search.proofs.Marks.{sees-same, sees-other, waits-same, waits-other}

-- marks that all say that nothing is seen
pub unseen-at : (m y : ℕ) → get_or (replicate m Unseen) y Unseen ≡ Unseen
unseen-at zero y = refl
unseen-at (suc m) zero = refl
unseen-at (suc m) (suc y) = unseen-at m y

-- nothing is seen
pub nothing_seen : (n : ℕ) (key : ℕ → ℕ) → Lined n key (replicate 128 Unseen) [] 0
nothing_seen n key = record {
  marks_size = refl;
  keys = ap (map key) (sym (firsts-none key n n (sees (replicate 128 Unseen)) no_first));
  from_in = omega arith;
  passed = λ i l. absurd (lt_irrefl 0 (omega arith));
}
  where
    no_first : first key n (sees (replicate 128 Unseen)) ≡ none
    no_first =
        ⊎_elim
        (λ e. e)
        (λ f. absurd (never (first_some key n (sees (replicate 128 Unseen)) f.1).1 (ap is_seen (unseen-at 128 f.0))))
        (first_cases key n (sees (replicate 128 Unseen)))

-- of the entry's own marks
pub record Started (start : ℕ) (marks : List Mark) : Type 0 where
  pub fresh : IsFresh marks
  pub only : sees marks ≡ eqb start

module _ (marks : List Mark) (start : ℕ) (there : start < length marks) (z : (y : ℕ) → get_or marks y Unseen ≡ Unseen) where
  start_fresh : (y : ℕ) → waits (set marks start Waiting) y ≡ sees (set marks start Waiting) y
  start_fresh y =
      ⊎_elim
      (λ e. let q = eqb-true y start e in rw q (waits-same marks start Waiting there ∙ sym (sees-same marks start Waiting there)))
      (λ e.
      let d = eqb-false y start e in
      waits-other marks start Waiting y d ∙ ap is_waiting (z y) ∙ sym (sees-other marks start Waiting y d ∙ ap is_seen (z y)))
      (both (eqb y start))

  start_seen : (y : ℕ) → sees (set marks start Waiting) y ≡ eqb start y
  start_seen y =
      ⊎_elim
      (λ e. let q = eqb-true start y e in rw (← q) (sees-same marks start Waiting there ∙ sym (eq-eqb start start refl)))
      (λ e. sees-other marks start Waiting y (λ q. eqb-false start y e (sym q)) ∙ ap is_seen (z y) ∙ sym e)
      (both (eqb start y))

  only_started : Started start (set marks start Waiting)
  only_started = record { fresh = record { waiting = start_fresh }; only = fun_ext start_seen }

pub started : {start n : ℕ} → start < n → n ≤ 128 → {none marks : List Mark} → none ≡ replicate 128 Unseen → marks ≡ reached start none → Started start marks
started {start} l small f e =
    let none : List Mark = replicate 128 Unseen in
    rw (e, f, ← reached_new start none (unseen-at 128 start)) (only_started none start (omega arith) (unseen-at 128))
