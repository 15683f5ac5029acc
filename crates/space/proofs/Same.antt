-- A set or a question that is not refused is its fields: the facts about them are no part of the value. Assumes nothing.
use Prim.Native.Nat.{ℕ, ◌*◌}
use mathlib.Core.Path.{◌≡◌, subst, ap, ap₂}
use mathlib.Core.List.{List}
use native.Mathlib.Nat.{ℕ_set}
use lib.IntN.{ℤ}
use lib.ListN.{length}
use denote.Bor.{Bor}
use Rattle.rules.specs.Refusals.{set_refusal}
use Rattle.space.specs.declared.set.Set.{Set}
use Rattle.space.specs.declared.set.Points.{Points}
use Rattle.space.specs.declared.question.Asked.{Asked}

pub points_one : (p q : Points) → p.set ≡ q.set → p ≡ q
points_one p q e = go q.set e q.given
  where
    Given : Set → Type 0
    Given t = set_refusal t.n t.d (length t.vectors.now) ≡ 0

    build : (t : Set) → Given t → Points
    build t g = record { set = t; given = g }

    go : (t : Set) → p.set ≡ t → (g : Given t) → p ≡ build t g
    go t e = subst (λ (t : Set). (g : Given t) → p ≡ build t g) e (λ g. ap (build p.set) (ℕ_set _ _ p.given g))

record Fields : Type 0 where
  points : Points
  table : Bor (List ℕ)
  query : Bor (List ℤ)
  threshold : ℕ

pub asked_one : (a b : Asked) → a.points ≡ b.points → a.table ≡ b.table → a.query ≡ b.query → a.threshold ≡ b.threshold → a ≡ b
asked_one a b p t q m = go (fields b) (λ i. record { points = p i; table = t i; query = q i; threshold = m i }) b.table_is b.query_is
  where
    TableIs : Fields → Type 0
    TableIs f = length f.table.now ≡ f.points.set.n * f.points.set.n

    QueryIs : Fields → Type 0
    QueryIs f = length f.query.now ≡ f.points.set.d

    fields : Asked → Fields
    fields a = record { points = a.points; table = a.table; query = a.query; threshold = a.threshold }

    build : (f : Fields) → TableIs f → QueryIs f → Asked
    build f x y = record { points = f.points; table = f.table; query = f.query; threshold = f.threshold; table_is = x; query_is = y }

    go : (f : Fields) → fields a ≡ f → (x : TableIs f) (y : QueryIs f) → a ≡ build f x y
    go f e = subst (λ (f : Fields). (x : TableIs f) (y : QueryIs f) → a ≡ build f x y) e (λ x y. ap₂ (build (fields a)) (ℕ_set _ _ a.table_is x) (ℕ_set _ _ a.query_is y))
