-- The C functions: two calls on the same input that meet the contract agree in the number and in every lent cell, by the one lemma. Assumes nothing.
use Prim.Native.Nat.{ℕ}
use mathlib.Core.Path.{◌≡◌}
use mathlib.Core.List.{List}
use lib.IntN.{ℤ}
use Rattle.rules.specs.Walk.{Walk}
use Rattle.rules.specs.Sheet.{Contents}
use Rattle.rules.specs.Entries.{Ask}
use Rattle.demands.specs.CallsInC.{PointInC, SearchInC, StepInC, WalkInC, WriteInC, HeaderInC, AskInC}
use Rattle.demands.proofs.Fixed.{one}

pub point_in_c : {n d id start count x s c y t e : ℕ} {vectors : List ℤ}
    → PointInC n d vectors id start count x s c
    → PointInC n d vectors id start count y t e
    → (x ≡ y) × (s ≡ t) × (c ≡ e)
point_in_c g h = (one g.answers h.answers, one g.start-holds h.start-holds, one g.count-holds h.count-holds)

pub search_in_c : {a : Ask} {ids distances trail i j d e t u : List ℕ} {found seen walked x f s w y f' s' w' : ℕ}
    → SearchInC a ids distances trail found seen walked x i d t f s w
    → SearchInC a ids distances trail found seen walked y j e u f' s' w'
    → (x ≡ y) × (i ≡ j) × (d ≡ e) × (t ≡ u) × (f ≡ f') × (s ≡ s') × (w ≡ w')
search_in_c g h = (
  one g.answers h.answers,
  one g.ids_hold h.ids_hold,
  one g.distances_hold h.distances_hold,
  one g.trail-holds h.trail-holds,
  one g.found-holds h.found-holds,
  one g.seen-holds h.seen-holds,
  one g.walked-holds h.walked-holds,
)

module _ {n d threshold : ℕ} {vectors query : List ℤ} {table : List ℕ} where
  pub step_in_c : {w : Walk} {moved x c m b y c' m' b' : ℕ}
      → StepInC n d vectors table query threshold w moved x c m b
      → StepInC n d vectors table query threshold w moved y c' m' b'
      → (x ≡ y) × (c ≡ c') × (m ≡ m') × (b ≡ b')
  step_in_c g h = (
    one g.answers h.answers,
    one g.current-holds h.current-holds,
    one g.moves_hold h.moves_hold,
    one g.moved_holds h.moved_holds,
  )

  pub walk_in_c : {start last distance moves x l e m y l' e' m' : ℕ}
      → WalkInC n d vectors table query threshold start last distance moves x l e m
      → WalkInC n d vectors table query threshold start last distance moves y l' e' m'
      → (x ≡ y) × (l ≡ l') × (e ≡ e') × (m ≡ m')
  walk_in_c g h = (
    one g.answers h.answers,
    one g.last-holds h.last-holds,
    one g.distance-holds h.distance-holds,
    one g.moves_hold h.moves_hold,
  )

pub write_in_c : {k : Contents} {output o p : List ℕ} {written x w y v : ℕ}
    → WriteInC k output written x o w
    → WriteInC k output written y p v
    → (x ≡ y) × (o ≡ p) × (w ≡ v)
write_in_c g h = (one g.answers h.answers, one g.output_holds h.output_holds, one g.written_holds h.written_holds)

pub header_in_c : {ys : List ℕ} {n d c asks x n' d' c' asks' y n'' d'' c'' asks'' : ℕ}
    → HeaderInC ys n d c asks x n' d' c' asks'
    → HeaderInC ys n d c asks y n'' d'' c'' asks''
    → (x ≡ y) × (n' ≡ n'') × (d' ≡ d'') × (c' ≡ c'') × (asks' ≡ asks'')
header_in_c g h = (
  one g.answers h.answers,
  one g.n-holds h.n-holds,
  one g.d-holds h.d-holds,
  one g.c-holds h.c-holds,
  one g.asks_hold h.asks_hold,
)

pub ask_in_c : {ys : List ℕ} {i start width k threshold x s w m t y s' w' m' t' : ℕ} {query p q : List ℤ}
    → AskInC ys i query start width k threshold x p s w m t
    → AskInC ys i query start width k threshold y q s' w' m' t'
    → (x ≡ y) × (p ≡ q) × (s ≡ s') × (w ≡ w') × (m ≡ m') × (t ≡ t')
ask_in_c g h = (
  one g.answers h.answers,
  one g.query-holds h.query-holds,
  one g.start-holds h.start-holds,
  one g.width-holds h.width-holds,
  one g.k-holds h.k-holds,
  one g.threshold-holds h.threshold-holds,
)
