-- What a step answers and leaves in the record, in each of its four cases. Assumes nothing.
use Prim.Native.Nat.{ℕ, ◌+◌, ◌≤◌, ◌<◌}
use native.Mathlib.Nat.{lt_irrefl}
use native.Mathlib.Numerals.{add-one}
use native.Mathlib.Omega.{arith}
use mathlib.Core.Path.{◌≡◌, sym, ◌∙◌}
use mathlib.Core.Logic.{◌≢◌}
use mathlib.Core.Option.{Option, none, some}
use mathlib.Core.List.{List}
use lib.IntN.{ℤ}
use lib.ListN.{length}
use borrow.Author.Tests.{le-leb, lt-leb}
use Rattle.rules.specs.Outcome.{Outcome, refused, gives}
use Rattle.rules.specs.Refusals.{walk_refusal, step_refusal}
use Rattle.rules.specs.Walk.{Walk, Step, moved, at_end, due, stepped, step_from}
use Rattle.rules.specs.Entries.{goes_to, step_refused, step_answer, record_after}
use Rattle.laws.proofs.Refusals.{else_none, else_some, outcome-gives, outcome-refused, after_new, after_old}

module _ (n d : ℕ) (vectors : List ℤ) (table : List ℕ) (query : List ℤ) (threshold : ℕ) (w : Walk) where
  abbrev refusal : ℕ
  refusal = walk_refusal n d (length vectors) (length table) (length query) w.current threshold

  abbrev to : Option ℕ
  to = goes_to n d vectors table query threshold w.current

  abbrev number : ℕ
  number = step_refused n d vectors table query threshold w

  -- a step that answers a and leaves the record v
  abbrev pub Steps : Outcome Step → Walk → Type 0
  Steps a v = (a ≡ step_answer n d vectors table query threshold w) × (v ≡ record_after n d vectors table query threshold w)

  -- it is refused by the number r
  refuses : (r : ℕ) → r ≢ 0 → number ≡ r → Steps (refused r) w
  unfolding step_answer record_after
  refuses r d e = rw e (sym (outcome-refused d _), sym (after_old d _ _))

  -- it is not refused
  takes : number ≡ 0 → Steps (gives (stepped to)) (step_from w to)
  unfolding step_answer record_after
  takes e = (sym (outcome-gives e _), sym (after_new e _ _))

  -- what refuses a walk refuses the step
  pub step_stops : (r : ℕ) → r ≢ 0 → r ≡ refusal → Steps (refused r) w
  unfolding step_refused step_refusal
  step_stops r d e = refuses r d (else_some (λ z. d (e ∙ z)) _ ∙ sym e)

  -- the number where the walk is not refused, by where the step goes
  pub number_end : refusal ≡ 0 → to ≡ none → number ≡ 0
  unfolding step_refused step_refusal due
  number_end z e = else_none z _ ∙ rw e

  number_full : refusal ≡ 0 → (x : ℕ) → to ≡ some x → 127 ≤ w.moves → number ≡ 18
  unfolding step_refused step_refusal due
  number_full z x e l = else_none z _ ∙ rw (e, le-leb 127 w.moves l)

  pub number-move : refusal ≡ 0 → (x : ℕ) → to ≡ some x → w.moves < 127 → number ≡ 0
  unfolding step_refused step_refusal due
  number-move z x e l = else_none z _ ∙ rw (e, lt-leb 127 w.moves l)

  pub step_ends : refusal ≡ 0 → to ≡ none → Steps (gives at_end) w
  unfolding stepped step_from
  step_ends z e = rw e at (takes (number_end z e))

  pub step_full : refusal ≡ 0 → (x : ℕ) → to ≡ some x → 127 ≤ w.moves → Steps (refused 18) w
  step_full z x e l = refuses 18 (λ q. lt_irrefl 0 (omega arith)) (number_full z x e l)

  pub step_moves : refusal ≡ 0 → (x : ℕ) → to ≡ some x → w.moves < 127 → Steps (gives moved) (record { current = x; moves = w.moves + 1 })
  unfolding stepped step_from
  step_moves z x e l = rw add-one (rw e at (takes (number-move z x e l)))
