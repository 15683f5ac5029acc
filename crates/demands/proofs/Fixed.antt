-- Document 01, "What each stated result has to fix": "Show that two results meeting the statement are equal." Each public entry's answer and every lent cell
-- afterwards are fixed: two calls on the same input that meet its contract agree in all of it. Assumes nothing.
use Prim.Native.Nat.{ℕ}
use Rattle.std.specs.Prelude.{Result}
use Rattle.space.specs.declared.refusal.Refusal.{Refusal}
use mathlib.Core.Path.{◌≡◌, sym, ◌∙◌}
use mathlib.Core.List.{List}
use lib.IntN.{ℤ}
use Rattle.rules.specs.Walk.{Walk}
use Rattle.rules.specs.Sheet.{Contents}
use Rattle.rules.specs.Entries.{Ask}
use Rattle.search.specs.declared.Counts.{Counts}
use Rattle.walk.specs.declared.answers.Step.{Step}
use Rattle.walk.specs.declared.answers.End.{End}
use Rattle.sheet.specs.declared.Head.{Head}
use Rattle.sheet.specs.declared.Numbers.{Numbers}
use Rattle.search.proofs.Told.{search-told}
use Rattle.walk.specs.declared.answers.Walk.{Walk as Kept}
use Rattle.walk.specs.Answers.{record_of}
use Rattle.walk.proofs.Told.{step_told, record_told, walk-told}
use Rattle.sheet.specs.declared.Numbers.{Numbers}
use Rattle.sheet.proofs.Told.{write_told_lem, head_told_lem, ask-told}
use Rattle.demands.specs.Calls.{PointCall, PointRefusalCall, DistanceCall, BuildCall, SearchCall, StepCall, WalkCall, WriteCall, HeaderCall, VectorsCall, AskCall}

-- the one lemma: what equals the same is equal
pub one : {A : Type 0} {x y z : A} → x ≡ z → y ≡ z → x ≡ y
one p q = p ∙ sym q

pub point_fixed : {n d id : ℕ} {vectors p q : List ℤ} → PointCall n d vectors id p → PointCall n d vectors id q → p ≡ q
point_fixed g h = one g.hands h.hands

pub point_refusal_fixed : {n d id x y : ℕ} {vectors : List ℤ} → PointRefusalCall n d vectors id x → PointRefusalCall n d vectors id y → x ≡ y
point_refusal_fixed g h = one g.answers h.answers

pub distance_fixed : {a b : List ℤ} {x y : ℕ} → DistanceCall a b x → DistanceCall a b y → x ≡ y
distance_fixed g h = one g.answers h.answers

pub build_fixed : {n d x y : ℕ} {vectors : List ℤ} {table t u : List ℕ}
    → BuildCall n d vectors table x t
    → BuildCall n d vectors table y u
    → (x ≡ y) × (t ≡ u)
build_fixed g h = (one g.answers h.answers, one g.table-holds h.table-holds)

pub search_fixed : {a : Ask} {ids distances trail i j d e t u : List ℕ} {r s : Result Counts Refusal}
    → SearchCall a ids distances trail r i d t
    → SearchCall a ids distances trail s j e u
    → (r ≡ s) × (i ≡ j) × (d ≡ e) × (t ≡ u)
search_fixed {r = r} {s = s} g h =
    (search-told r s (one g.answers h.answers), one g.ids_hold h.ids_hold, one g.distances_hold h.distances_hold, one g.trail-holds h.trail-holds)

-- the record that the caller keeps is fixed too, since the rules' record loses nothing of it
pub step_fixed : {n d threshold : ℕ} {vectors query : List ℤ} {table : List ℕ} {w : Walk} {v u : Kept} {r s : Result Step Refusal}
    → StepCall n d vectors table query threshold w r (record_of v)
    → StepCall n d vectors table query threshold w s (record_of u)
    → (r ≡ s) × (v ≡ u)
step_fixed {v = v} {u = u} {r = r} {s = s} g h =
    (step_told r s (one g.answers h.answers), record_told v u (one g.record_holds h.record_holds))

pub walk_fixed : {n d threshold start : ℕ} {vectors query : List ℤ} {table : List ℕ} {r s : Result End Refusal}
    → WalkCall n d vectors table query threshold start r
    → WalkCall n d vectors table query threshold start s
    → r ≡ s
walk_fixed {r = r} {s = s} g h = walk-told r s (one g.answers h.answers)

pub write_fixed : {k : Contents} {output o p : List ℕ} {r s : Result ℕ Refusal} → WriteCall k output r o → WriteCall k output s p → (r ≡ s) × (o ≡ p)
write_fixed {r = r} {s = s} g h = (write_told_lem r s (one g.answers h.answers), one g.output_holds h.output_holds)

pub header_fixed : {ys : List ℕ} {r s : Result Head Refusal} → HeaderCall ys r → HeaderCall ys s → r ≡ s
header_fixed {r = r} {s = s} g h = head_told_lem r s (one g.answers h.answers)

pub vectors_fixed : {ys : List ℕ} {buffer b e : List ℤ} {x y : ℕ} → VectorsCall ys buffer x b → VectorsCall ys buffer y e → (x ≡ y) × (b ≡ e)
vectors_fixed g h = (one g.answers h.answers, one g.buffer_holds h.buffer_holds)

pub ask_fixed : {ys : List ℕ} {i : ℕ} {query p q : List ℤ} {r s : Result Numbers Refusal} → AskCall ys i query r p → AskCall ys i query s q → (r ≡ s) × (p ≡ q)
ask_fixed {r = r} {s = s} g h = (ask-told r s (one g.answers h.answers), one g.query-holds h.query-holds)
