-- Points of a set that is not refused, and D as `distance` gives it for them: document 01's D. Assumes nothing.
use Prim.Native.Nat.{ℕ, ◌*◌, ◌≤◌, ◌<◌}
use mathlib.Core.Path.{◌≡◌, refl, sym, ap₂, ◌∙◌}
use mathlib.Core.Logic.{◌≢◌}
use mathlib.Core.Bool.{Bool, true, false}
use mathlib.Core.List.{List, []}
use native.Mathlib.Nat.{mul-le-mul_right}
use native.Mathlib.Omega.{arith}
use lib.IntN.{ℤ}
use lib.ListN.{length, take, drop, length-take}
use lib.Seq.{take_all}
use lib.Dec.{leb}
use borrow.Author.Tests.{le-leb, lt-leb, leb-true, leb-false}
use Rattle.std.proofs.Math.ListN.{drop_of_length-le}
use Rattle.rules.specs.Points.{dist, coordinates, apart, away}
use Rattle.rules.specs.Refusals.{set_refusal, point_refusal}
use Rattle.rules.specs.Entries.{point_of}
use Rattle.laws.proofs.Refusals.{SetOk, set_ok, skipped, else_none, else_both, after_new, after_old}
use Rattle.laws.proofs.RefusalOrder.{passes, point_order}

-- what is known of a point that is not refused
pub point_ok : (n d len id : ℕ) → point_refusal n d len id ≡ 0 → SetOk n d len × (id < n)
point_ok n d len id e =
    let both = else_both (set_refusal n d len) _ (sym (point_order n d len id) ∙ e) in
    (set_ok n d len both.0, leb-false n id (skipped _ 5 0 both.1).0)

module _ (n d : ℕ) (vectors : List ℤ) (given : set_refusal n d (length vectors) ≡ 0) where
  -- a point of the set is handed back
  pub point_given : (id : ℕ) → id < n → point_of n d vectors id ≡ coordinates d vectors id
  unfolding point_of
  point_given id l =
      after_new (point_order n d (length vectors) id ∙ else_none given _ ∙ rw (lt-leb n id l)) [] (coordinates d vectors id)

  -- past the points there are no coordinates
  pub past-points : (id : ℕ) → n ≤ id → coordinates d vectors id ≡ []
  unfolding coordinates
  past-points id l =
      let ok = set_ok n d (length vectors) given in
      let far : n * d ≤ id * d = mul-le-mul_right d l in
      rw (drop_of_length-le vectors {i = id * d} (omega (arith, ok.whole, far))) (take_all d [] (omega arith))

  past-point_of : (id : ℕ) → n ≤ id → point_of n d vectors id ≡ []
  unfolding point_of
  past-point_of id l = after_old none [] (coordinates d vectors id)
    where
      six : point_refusal n d (length vectors) id ≡ 6
      six = passes (point_order n d (length vectors) id) (sym given) refl ∙ rw (le-leb n id l) refl

      none : point_refusal n d (length vectors) id ≢ 0
      none z = let e : 6 ≡ 0 = sym six ∙ z in omega (arith, e)

  -- so what is handed back is the coordinates, whatever the id
  pub point_is : (id : ℕ) → point_of n d vectors id ≡ coordinates d vectors id
  point_is id = go (leb n id) refl
    where
      go : (t : Bool) → leb n id ≡ t → point_of n d vectors id ≡ coordinates d vectors id
      go true e = past-point_of id (leb-true n id e) ∙ sym (past-points id (leb-true n id e))
      go false e = point_given id (leb-false n id e)

  -- a point has no more than 64 coordinates
  whole : (id : ℕ) → take 64 (coordinates d vectors id) ≡ coordinates d vectors id
  unfolding coordinates
  whole id =
      let few : d ≤ 64 = (set_ok n d (length vectors) given).few-coordinates in
      take_all 64 (take d (drop (id * d) vectors)) (simp length-take (omega arith))

  -- D from a query, as `distance` has it
  pub measured : (query : List ℤ)
      → length query ≡ d
      → (id : ℕ)
      → dist (take 64 (coordinates d vectors id)) (take 64 query) ≡ away d vectors query id
  unfolding away
  measured query e id =
      let few : d ≤ 64 = (set_ok n d (length vectors) given).few-coordinates in
      ap₂ dist (whole id) (take_all 64 query (omega arith))

  -- D between two points, as `distance` has it
  pub between-points : (u v : ℕ) → dist (take 64 (coordinates d vectors u)) (take 64 (coordinates d vectors v)) ≡ apart d vectors u v
  unfolding apart
  between-points u v = ap₂ dist (whole u) (whole v)
