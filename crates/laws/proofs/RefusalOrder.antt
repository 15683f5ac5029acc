-- How an entry's order of refusals goes on from one that it shares: from that of a set, 1 to 3, and from that of a set, its table, a query and an id, 1 to 6.
-- Assumes nothing.
use Prim.Native.Nat.{ℕ, suc, ◌*◌}
use mathlib.Core.Path.{◌≡◌, refl, sym, ◌∙◌}
use mathlib.Core.Logic.{◌≢◌}
use mathlib.Core.Bool.{Bool, true, false, cond}
use mathlib.Core.List.{[], ◌∷◌}
use lib.Dec.{leb}
use borrow.Author.Tests.{leb-false, eq-eqb, lt-leb}
use Rattle.rules.specs.Outcome.{first_of, or_else}
use Rattle.rules.specs.Refusals.{outside, differ, set_refusal, point_refusal, build_refusal, start_refusal, search_refusal, walk_refusal}
use Rattle.rules.specs.Refusals.{refuse4, refuse5, refuse6, refuse7, refuse8, refuse9, refuse10}
use Rattle.laws.specs.Lent.{StartOk}
use Rattle.laws.proofs.Refusals.{else_none, else_some, else_both, skipped, alike, set_ok}

-- ---- an entry that asks for a shared refusal first

-- where that is not 0 it is the answer, and where it is 0 the answer is what comes next
pub stops : {r s o : ℕ} (x : ℕ) → o ≡ or_else s x → r ≡ s → r ≢ 0 → r ≡ o
stops x order e d = e ∙ sym (order ∙ else_some (λ z. d (e ∙ z)) x)

pub passes : {r s o x : ℕ} → o ≡ or_else s x → r ≡ s → r ≡ 0 → o ≡ x
passes {x = x} order e z = order ∙ else_none (sym e ∙ z) x

-- ---- the orders

-- a number with its test before both
sooner : (t : Bool) (k r x : ℕ) {s : ℕ} → s ≡ or_else r x → cond t (suc k) s ≡ or_else (cond t (suc k) r) x
unfolding or_else
sooner true k r x e = refl
sooner false k r x e = e

-- 1, 2, 3, and what follows
set_first : (t u v : Bool) (x : ℕ) → cond t 1 (cond u 2 (cond v 3 x)) ≡ or_else (cond t 1 (cond u 2 (cond v 3 0))) x
unfolding or_else
set_first t u v x = sooner t 0 _ x (sooner u 1 _ x (sooner v 2 _ x refl))

-- 1 to 6, and what follows
start_first : (t u v w y z : Bool) (x : ℕ) →
    cond t 1 (cond u 2 (cond v 3 (cond w 4 (cond y 5 (cond z 6 x)))))
    ≡ or_else (cond t 1 (cond u 2 (cond v 3 (cond w 4 (cond y 5 (cond z 6 0)))))) x
unfolding or_else
start_first t u v w y z x =
    sooner t 0 _ x (sooner u 1 _ x (sooner v 2 _ x (sooner w 3 _ x (sooner y 4 _ x (sooner z 5 _ x refl)))))

pub point_order : (n d vectors id : ℕ) →
    point_refusal n d vectors id ≡ or_else (set_refusal n d vectors) (first_of (refuse6 n id ∷ []))
unfolding point_refusal set_refusal
point_order n d vectors id = set_first (outside 1 128 n) (outside 1 64 d) (differ vectors (n * d)) _

pub build_order : (n d vectors table : ℕ) →
    build_refusal n d vectors table ≡ or_else (set_refusal n d vectors) (first_of (refuse4 n table ∷ []))
unfolding build_refusal set_refusal
build_order n d vectors table = set_first (outside 1 128 n) (outside 1 64 d) (differ vectors (n * d)) _

pub start_order : (n d vectors table query start : ℕ) →
    start_refusal n d vectors table query start
    ≡ or_else (set_refusal n d vectors) (first_of (refuse4 n table ∷ refuse5 d query ∷ refuse6 n start ∷ []))
unfolding start_refusal set_refusal
start_order n d vectors table query start = set_first (outside 1 128 n) (outside 1 64 d) (differ vectors (n * d)) _

pub walk_order : (n d vectors table query start threshold : ℕ) →
    walk_refusal n d vectors table query start threshold
    ≡ or_else (start_refusal n d vectors table query start) (first_of (refuse9 threshold ∷ []))
unfolding walk_refusal start_refusal
walk_order n d vectors table query start threshold =
    start_first (outside 1 128 n) (outside 1 64 d) (differ vectors (n * d)) (differ table (n * n)) (differ query d) (leb n start) _

pub search_order : (n d vectors table query start threshold width k ids distances trail : ℕ) →
    search_refusal n d vectors table query start threshold width k ids distances trail
    ≡ or_else (start_refusal n d vectors table query start)
    (first_of (refuse7 width ∷ refuse8 width k ∷ refuse9 threshold ∷ refuse10 n k ids distances trail ∷ []))
unfolding search_refusal start_refusal
search_order n d vectors table query start threshold width k ids distances trail =
    start_first (outside 1 128 n) (outside 1 64 d) (differ vectors (n * d)) (differ table (n * n)) (differ query d) (leb n start) _

-- ---- a set, its table, a query and an id to start from

pub start_ok : (n d vectors table query start : ℕ) → start_refusal n d vectors table query start ≡ 0 → StartOk n d vectors table query start
start_ok n d vectors table query start e =
    let both = else_both (set_refusal n d vectors) _ (sym (start_order n d vectors table query start) ∙ e) in
    let four = skipped (differ table (n * n)) 3 _ both.1 in
    let five = skipped (differ query d) 4 _ four.1 in
    let six = skipped (leb n start) 5 _ five.1 in
    record {
      asked = record {
        set_given = both.0;
        few-points = (set_ok n d vectors both.0).few-points;
        query-is = alike query d five.0;
      };
      table_is = alike table (n * n) four.0;
      start_in = leb-false n start six.0;
    }

-- and with those facts they are not
pub start_none : (n d vectors table query start : ℕ) → StartOk n d vectors table query start → start_refusal n d vectors table query start ≡ 0
start_none n d vectors table query start ok =
    start_order n d vectors table query start
    ∙ else_none ok.asked.set_given _
    ∙ rw (eq-eqb table (n * n) ok.table_is, eq-eqb query d ok.asked.query-is, lt-leb n start ok.start_in)
