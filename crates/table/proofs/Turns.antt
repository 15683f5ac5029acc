-- The turns of a row: the ids that wait get fewer, and those that do not have their cells. Assumes nothing.
use Prim.Native.Nat.{ℕ, ◌%◌, ◌≤◌, ◌<◌}
use mathlib.Core.Path.{◌≡◌, sym, ap, ◌∙◌}
use mathlib.Core.Logic.{⊎_elim, ∥∥₁_elim}
use mathlib.Core.Bool.{true, not}
use mathlib.Core.List.{List}
use native.Mathlib.Nat.{lt_irrefl}
use native.Mathlib.Omega.{arith}
use lib.Dec.{eqb}
use lib.ListN.{length, set, length-set}
use lib.Seq.{get_or-set_same, get_or-set_other}
use borrow.Author.Tests.{eqb-true, eqb-false, not-true}
use Rattle.std.proofs.Math.Bool.{Bool-set}
use Rattle.rules.specs.Order.{count}
use Rattle.rules.specs.Labels.{cell}
use Rattle.laws.proofs.Tests.{both, never, count_less}
use Rattle.table.specs.Kept.{Mutual}
use Rattle.table.specs.Rows.{top, lowest, done, Sofar, Written, RowOf}
use Rattle.table.proofs.Least.{lowest-under}
use Rattle.table.proofs.Settled.{First, done-top, done-set, done_kept, first_long, first_below, first-waits}
use Rattle.table.proofs.Starting.{keyed-small}

-- how many wait
abbrev pub waiting : List ℕ → ℕ
waiting left = count 128 (λ v. not (done left v))

module _ {δ : ℕ → ℕ → ℕ} {n u key : ℕ} {left lead : List ℕ} (first : First δ n u left lead key) {left' : List ℕ} (after : left' ≡ set left (key % 128) top) where
  inside : key % 128 < length left
  inside = omega (arith, first_below first, first.kept.few, first_long first)

  pub written_more : {cells cells' : List ℕ} → Written δ n u left cells → cells' ≡ set cells (key % 128) (cell δ n u (key % 128)) →
      Written δ n u left' cells'
  written_more {cells} {cells'} w f = record {
    long = rw (f, length-set) w.long;
    decided = λ v l t.
        ⊎_elim
        (λ g. rw (f, eqb-true v (key % 128) g) (get_or-set_same cells (key % 128) (cell δ n u (key % 128)) 0 (omega (arith, first_below first, w.long))))
        (λ g.
        rw
        f
        (get_or-set_other cells (key % 128) v (cell δ n u (key % 128)) 0 (eqb-false v (key % 128) g)
        ∙ w.decided v l (sym (done_kept left (key % 128) v (eqb-false v (key % 128) g)) ∙ rw after at t)))
        (both (eqb v (key % 128)));
  }

  pub waiting-less : waiting left' < waiting left
  waiting-less =
      rw
      after
      (count_less
      128
      (λ v. not (done (set left (key % 128) top) v))
      (λ v. not (done left v))
      (λ y l t.
      ⊎_elim
      (λ g.
      let on : done (set left (key % 128) top) y ≡ true = rw (eqb-true y (key % 128) g) (done-set left (key % 128) inside) in
      absurd (never on (not-true (done (set left (key % 128) top) y) t)))
      (λ g. rw (done_kept left (key % 128) y (eqb-false y (key % 128) g)) at t)
      (both (eqb y (key % 128))))
      (key % 128)
      (omega (arith, first_below first, first.kept.few))
      (ap not (done-set left (key % 128) inside))
      (ap not (first-waits first)))

-- no key is as large, so none waits
module _ {δ : ℕ → ℕ → ℕ} {n u key : ℕ} {left lead : List ℕ} (kept : Mutual δ n) (lu : u < n) (sofar : ∥ Sofar δ n u left lead ∥₁)
    (next : key ≡ lowest left) where
  pub row_end : top ≤ key → {cells : List ℕ} → Written δ n u left cells → RowOf δ n u cells
  row_end h w = record { long = w.long; each = λ v l. w.decided v l (all v l) }
    where
      all : (v : ℕ) → v < n → done left v ≡ true
      all v l =
          ∥∥₁_elim
          sofar
          (Bool-set _ _)
          (λ s.
          ⊎_elim
          (λ t. done-top left v t)
          (λ f. absurd (lt_irrefl top (omega (arith, next, f.2, lowest-under left v (omega (arith, kept.few, s.long_left)), keyed-small u v kept lu l))))
          (s.waiting v (omega (arith, kept.few))))
