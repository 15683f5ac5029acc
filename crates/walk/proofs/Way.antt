-- A walk on its way: what its loop keeps, how that goes on, and where it ends. Assumes nothing.
use Prim.Native.Nat.{ℕ, ◌+◌, ◌<◌}
use native.Mathlib.Numerals.{add-one}
use mathlib.Core.Path.{◌≡◌, sym, ap, ◌∙◌}
use mathlib.Core.Option.{none, some}
use Rattle.rules.specs.Walk.{Walk}
use Rattle.rules.specs.Entries.{End, goes_to, ending, end_of}
use Rattle.laws.proofs.Walking.{Passes, passes_start, passes_move, passes_end, passes_short}
use Rattle.space.specs.declared.question.Question.{Question}
use Rattle.walk.specs.Answers.{at}
use Rattle.walk.specs.Asked.{D, edge, goes, ends}

module _ (q : Question) (start : ℕ) where
  -- the walk comes by the id `last` after some moves
  abbrev pub Way : ℕ → ℕ → Type 0
  Way last moves = Passes q.set.n (D q) (edge q) start (at last moves)

  pub way_starts : start < q.set.n → Way start 0
  way_starts l = passes_start q.set.n (D q) (edge q) start l

  module _ {last moves : ℕ} (way : Way last moves) where
    module _ {id : ℕ} (to : goes q last ≡ some id) where
      -- to an id of the set, with moves to spare
      pub way_moves : Way id (moves + 1)
      unfolding goes_to
      way_moves = rw add-one (passes_move q.set.n (D q) (edge q) way id to)

      pub way_spare : moves + 1 < q.set.n
      unfolding goes_to
      way_spare = rw add-one (passes_short q.set.n (D q) (edge q) way id to)

    abbrev end_at : ℕ → Walk → End
    end_at far w = record { last = w.current; distance = far; moves = w.moves }

    -- this is the end
    pub way_ends : {far : ℕ} → far ≡ D q last → goes q last ≡ none → end_at far (at last moves) ≡ ends q start
    unfolding end_of ending goes_to
    way_ends e to =
        ap (λ (x : ℕ). end_at x (at last moves)) e
        ∙ ap (λ (w : Walk). end_at (D q w.current) w) (sym (passes_end q.set.n (D q) (edge q) way to))
