-- What holds of a whole walk beside its answer: it is made of steps, none of which is refused, and it comes to a real end.
use Rattle.std.specs.Prelude.{ℕ, zero, suc, ◌<◌, ◌≡◌, List, ℤ}
use Rattle.std.proofs.Math.Option.{none}
use Rattle.rules.specs.Points.{away}
use Rattle.rules.specs.Walk.{Walk as Record}
use Rattle.rules.specs.Entries.{goes_to, step_refused, record_after, ending}
use Rattle.walk.specs.declared.answers.End.{End}
use Rattle.walk.specs.Answers.{at}

module _ (n d : ℕ) (vectors : List ℤ) (table : List ℕ) (query : List ℤ) (threshold : ℕ) where
  -- the record after k steps
  unfoldable pub steps_on : ℕ → Record → Record
  steps_on zero w = w
  steps_on (suc k) w = steps_on k (record_after n d vectors table query threshold w)

  -- the whole walk is n steps of a record that starts with 0 moves. None of them, and none after them, is refused: 18 is never met.
  pub record BySteps (start : ℕ) : Type 0 where
    pub never_refused : (k : ℕ) → step_refused n d vectors table query threshold (steps_on k (at start 0)) ≡ 0
    pub same_end : steps_on n (at start 0) ≡ ending n d vectors table query threshold start

  -- an id of the set, from which no step moves, and its D, after at most n - 1 moves
  pub record Arrived (e : End) : Type 0 where
    pub within : e.last < n
    pub stopped : goes_to n d vectors table query threshold e.last ≡ none
    pub far : e.distance ≡ away d vectors query e.last
    pub short : e.moves < n
