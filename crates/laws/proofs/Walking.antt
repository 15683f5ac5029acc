-- A walk that is under way: how far it has come after each move, for a loop that walks. Assumes nothing.
use Prim.Native.Nat.{ℕ, zero, suc, ◌+◌, ◌≤◌, ◌<◌}
use native.Mathlib.Nat.{lt_irrefl}
use native.Mathlib.Omega.{arith}
use mathlib.Core.Path.{◌≡◌, refl, sym, ◌∙◌}
use mathlib.Core.Logic.{⊎_elim}
use mathlib.Core.Bool.{Bool}
use mathlib.Core.Option.{none, some}
use Rattle.rules.specs.Walk.{Walk, step_to, walk, walk_from}
use Rattle.laws.proofs.Walk.{step_cases, step_nearer, walk_stays, walk-moves, nearer, nearer_less, nearer_lt}

module _ (n : ℕ) (D : ℕ → ℕ) (edge : ℕ → ℕ → Bool) where
  -- each move leaves fewer nearer ids
  fewer : (w : Walk) (x : ℕ) → step_to n D edge w.current ≡ some x → nearer n D edge x < nearer n D edge w.current
  fewer w x e = let s = step_nearer n D edge w.current x e in nearer_less n D edge w.current x s.0 s.1

  abbrev moved : Walk → ℕ → Walk
  moved w x = record { current = x; moves = suc w.moves }

  -- so that no more steps than those are needed: with more of them the walk ends in the same place
  enough : (f g : ℕ) (w : Walk) → nearer n D edge w.current ≤ f → nearer n D edge w.current ≤ g → walk n D edge f w ≡ walk n D edge g w
  enough zero g w h k =
      ⊎_elim
      (λ e. walk_stays n D edge zero w e ∙ sym (walk_stays n D edge g w e))
      (λ m. absurd (lt_irrefl 0 (omega (arith, fewer w m.0 m.1))))
      (step_cases n D edge w.current)
  enough (suc f) zero w h k =
      ⊎_elim
      (λ e. walk_stays n D edge (suc f) w e ∙ sym (walk_stays n D edge zero w e))
      (λ m. absurd (lt_irrefl 0 (omega (arith, fewer w m.0 m.1))))
      (step_cases n D edge w.current)
  enough (suc f) (suc g) w h k =
      ⊎_elim
      (λ e. walk_stays n D edge (suc f) w e ∙ sym (walk_stays n D edge (suc g) w e))
      (λ m.
      let l = fewer w m.0 m.1 in
      walk-moves n D edge f w m.0 m.1
      ∙ enough f g (moved w m.0) (omega arith) (omega arith)
      ∙ sym (walk-moves n D edge g w m.0 m.1))
      (step_cases n D edge w.current)

  -- a walk from the start comes by w: it goes on from there to its end, and has moves to spare
  pub record Passes (start : ℕ) (w : Walk) : Type 0 where
    pub within : w.current < n
    pub spare : w.moves + nearer n D edge w.current < n
    pub onward : walk_from n D edge start ≡ walk n D edge n w

  pub passes_start : (start : ℕ) → start < n → Passes start (record { current = start; moves = 0 })
  unfolding walk_from
  passes_start start l = record { within = l; spare = omega (arith, nearer_lt n D edge start l); onward = refl }

  module _ {start : ℕ} {w : Walk} (p : Passes start w) where
    pub passes_move : (x : ℕ) → step_to n D edge w.current ≡ some x → Passes start (record { current = x; moves = suc w.moves })
    passes_move x e =
        let l = fewer w x e in
        record {
          within = (step_nearer n D edge w.current x e).0;
          spare = omega (arith, p.spare);
          onward = p.onward
              ∙ enough n (suc n) w (omega (arith, p.spare)) (omega (arith, p.spare))
              ∙ walk-moves n D edge n w x e;
        }

    pub passes_end : step_to n D edge w.current ≡ none → walk_from n D edge start ≡ w
    passes_end e = p.onward ∙ walk_stays n D edge n w e

    -- a walk that has yet to move has made fewer than n - 1 moves
    pub passes_short : (x : ℕ) → step_to n D edge w.current ≡ some x → suc w.moves < n
    passes_short x e = omega (arith, p.spare, fewer w x e)
