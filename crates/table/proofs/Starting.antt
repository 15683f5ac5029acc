-- The start of a row: all ids but u wait, and none leads. Assumes nothing.
use Prim.Native.Nat.{ℕ, ◌≤◌, ◌<◌}
use mathlib.Core.Path.{◌≡◌, sym, ap, ◌∙◌}
use mathlib.Core.Logic.{inl, inr, ⊎_elim}
use mathlib.Core.Bool.{true}
use mathlib.Core.List.{List}
use native.Mathlib.Nat.{lt_irrefl}
use native.Mathlib.Omega.{arith}
use lib.Dec.{eqb}
use lib.ListN.{length, get_or, set, replicate, length-set, length-replicate, get_or-replicate}
use lib.Seq.{get_or-set_same, get_or-set_other}
use borrow.Author.Tests.{eqb-true, eqb-false}
use Rattle.rules.specs.Order.{keyed}
use Rattle.rules.specs.Labels.{leads}
use Rattle.laws.proofs.Tests.{both, and_l, and_r, le_or_lt}
use Rattle.laws.proofs.Table.{leads-is, cell_self}
use Rattle.table.specs.Kept.{Mutual}
use Rattle.table.specs.Rows.{top, done, Queued, Sofar, Written}
use Rattle.table.proofs.Mapped.{Mapped}
use Rattle.table.proofs.Settled.{done-is}

-- the new value at each place, whatever stood there
abbrev pub key_of : (ℕ → ℕ) → ℕ → ℕ → ℕ
key_of D v y = keyed D v

pub replicated : {l : List ℕ} → l ≡ replicate 128 top → length l ≡ 128
replicated e = ap length e ∙ length-replicate 128 top

pub queued : {δ : ℕ → ℕ → ℕ} {n u k : ℕ} {old new : List ℕ} → n ≤ 128 → u < n → old ≡ replicate 128 top → k ≡ n → Mapped (key_of (δ u)) k old new →
    Queued δ n u (set new u top)
queued {δ} {n} {u} {k} {old} {new} few lu e s m =
    let long : length new ≡ 128 = m.long ∙ replicated e in
    record {
      long = simp length-set long;
      self = get_or-set_same new u top 0 (omega arith);
      ids = λ v l d. get_or-set_other new u v top 0 d ∙ m.passed v (omega arith);
      others = λ v l h.
          get_or-set_other new u v top 0 (λ t. lt_irrefl u (omega (arith, t)))
          ∙ m.others v (omega arith)
          ∙ ap (λ (o : List ℕ). get_or o v 0) e
          ∙ get_or-replicate 128 v top 0 h;
    }

-- a key is below the largest number
pub keyed-small : {δ : ℕ → ℕ → ℕ} {n : ℕ} (u v : ℕ) → Mutual δ n → u < n → v < n → keyed (δ u) v < top
unfolding keyed
keyed-small u v kept lu lv = omega (arith, kept.small u v lu lv, kept.few)

pub sofar_none : {δ : ℕ → ℕ → ℕ} {n u : ℕ} {left lead : List ℕ}
    → Mutual δ n
    → u < n
    → Queued δ n u left
    → lead ≡ replicate 128 top
    → Sofar δ n u left lead
sofar_none {δ} {n} {u} {left} {lead} kept lu q e = record {
  long_left = q.long;
  long_lead = replicated e;
  waiting = λ v l.
      ⊎_elim
      (λ h. inl (q.others v h l))
      (λ h. ⊎_elim (λ s. inl (rw (eqb-true v u s) q.self)) (λ s. inr (h, eqb-false v u s, q.ids v h (eqb-false v u s))) (both (eqb v u)))
      (le_or_lt n v);
  leading = λ x l. record {
    under = λ w lw t. absurd (not_yet x w lw (and_l (leads δ n u x w) (done left w) t) (and_r (leads δ n u x w) (done left w) t));
    met = inl (ap (λ (o : List ℕ). get_or o x 0) e ∙ get_or-replicate 128 x top 0 (omega (arith, kept.few)));
  };
}
  where
    -- only u does not wait, and u does not lead
    not_yet : (x w : ℕ) → w < n → leads δ n u x w ≡ true → done left w ≡ true → ⊥
    not_yet x w lw t f =
        let other = ((leads-is δ n u x w).0 t).0 in
        lt_irrefl top (omega (arith, done-is left w f, q.ids w lw (λ s. other (sym s)), keyed-small u w kept lu lw))

-- only u has its cell at first
pub written_none : {δ : ℕ → ℕ → ℕ} {n u : ℕ} {left : List ℕ} (cells : List ℕ) → Mutual δ n → u < n → length cells ≡ n → Queued δ n u left →
    Written δ n u left (set cells u 65535)
written_none {δ} {n} {u} {left} cells kept lu long q = record {
  long = simp length-set long;
  decided = λ v l f.
      ⊎_elim
      (λ s. rw (eqb-true v u s) (get_or-set_same cells u 65535 0 (omega arith) ∙ sym (cell_self δ n u)))
      (λ s. absurd (lt_irrefl top (omega (arith, done-is left v f, q.ids v l (eqb-false v u s), keyed-small u v kept lu l))))
      (both (eqb v u));
}
