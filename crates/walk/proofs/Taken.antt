-- A walk that is not refused is taken. Assumes nothing.
use Prim.Native.Nat.{ℕ, ◌*◌, ◌≤◌, ◌<◌}
use native.Mathlib.Omega.{arith}
use mathlib.Core.Path.{◌≡◌, sym, ◌∙◌}
use mathlib.Core.Bool.{Bool, true, false, cond}
use mathlib.Core.List.{[], ◌∷◌}
use lib.Dec.{leb, ltb}
use Rattle.rules.specs.Outcome.{first_of}
use Rattle.rules.specs.Refusals.{outside, differ, start_refusal, walk_refusal, refuse9}
use Rattle.laws.proofs.Refusals.{else_none, else_both}
use Rattle.laws.specs.Lent.{StartOk}
use Rattle.laws.proofs.RefusalOrder.{walk_order, start_ok, start_none}

-- it is not refused for what it starts from, nor for its threshold
parts : (n d vectors table query id threshold : ℕ) → walk_refusal n d vectors table query id threshold ≡ 0 →
    (start_refusal n d vectors table query id ≡ 0) × (first_of (refuse9 threshold ∷ []) ≡ 0)
parts n d vectors table query id threshold e =
    else_both (start_refusal n d vectors table query id) _ (sym (walk_order n d vectors table query id threshold) ∙ e)

pub taken : (n d vectors table query id threshold : ℕ) → walk_refusal n d vectors table query id threshold ≡ 0 → StartOk n d vectors table query id
taken n d vectors table query id threshold e = start_ok n d vectors table query id (parts n d vectors table query id threshold e).0

-- another id of the set is not refused either
pub another : (n d vectors table query id threshold other : ℕ) → walk_refusal n d vectors table query id threshold ≡ 0 → other < n →
    walk_refusal n d vectors table query other threshold ≡ 0
another n d vectors table query id threshold other e l =
    let both = parts n d vectors table query id threshold e in
    let ok = start_ok n d vectors table query id both.0 in
    let starts : StartOk n d vectors table query other = record {
      asked = ok.asked;
      table_is = ok.table_is;
      start_in = l;
    } in
    walk_order n d vectors table query other threshold ∙ else_none (start_none n d vectors table query other starts) _ ∙ both.1

-- a walk's refusal is one of 1 to 6 and 9
pub no_eighteen : (n d vectors table query id threshold : ℕ) → walk_refusal n d vectors table query id threshold ≤ 9
unfolding walk_refusal
no_eighteen n d vectors table query id threshold =
    either (outside 1 128 n) 1 _ (omega arith)
    (either (outside 1 64 d) 2 _ (omega arith)
    (either (differ vectors (n * d)) 3 _ (omega arith)
    (either (differ table (n * n)) 4 _ (omega arith)
    (either (differ query d) 5 _ (omega arith)
    (either (leb n id) 6 _ (omega arith)
    (either (ltb 32767 threshold) 9 0 (omega arith) (omega arith)))))))
  where
    either : (t : Bool) (k r : ℕ) → k ≤ 9 → r ≤ 9 → cond t k r ≤ 9
    either true k r h l = h
    either false k r h l = l
