-- Where a walk stands, and where a step moves to from there, by the key that is found. Assumes nothing.
use Prim.Native.Nat.{ℕ, ◌*◌, ◌/◌, ◌%◌, ◌≤◌, ◌<◌}
use native.Mathlib.Omega.{arith}
use mathlib.Core.Path.{◌≡◌, ap, ◌∙◌}
use mathlib.Core.Option.{none, some}
use Rattle.rules.specs.Order.{keyed}
use Rattle.rules.specs.Entries.{goes_to}
use Rattle.laws.proofs.Refusals.{set_ok}
use Rattle.space.specs.declared.question.Question.{Question}
use Rattle.space.specs.declared.question.Asked.{Asked}
use Rattle.walk.specs.Asked.{question_of, D, edge, goes}
use Rattle.walk.specs.Least.{least}
use Rattle.walk.specs.declared.stand.Stand.{Stand}
use Rattle.walk.proofs.Least.{key_stays, key_moves}

pub few : (asked : Asked) → asked.points.set.n ≤ 128
few asked = (set_ok _ _ _ asked.points.given).few-points

-- from the same id of the same question a step goes to the same place
pub goes_same : {p q : Question} {u v : ℕ} → p ≡ q → u ≡ v → goes p u ≡ goes q v
goes_same {p} {q} {u} {v} e f = ap (λ (x : Question). goes x u) e ∙ ap (goes q) f

module _ (stand : Stand) where
  abbrev q : Question
  q = question_of stand.asked

  abbrev u : ℕ
  u = stand.current

  -- a step moves to this id, at this D
  pub record There (id distance : ℕ) : Type 0 where
    pub goes : goes q u ≡ some id
    pub inside : id < q.set.n
    pub far : distance ≡ D q id

  module _ {key : ℕ} (is : key ≡ least (keyed (D q)) (edge q u) (stand.distance * 128) q.set.n) where
    found : key ≡ least (keyed (D q)) (edge q u) (D q u * 128) q.set.n
    found = is ∙ ap (λ (x : ℕ). least (keyed (D q)) (edge q u) (x * 128) q.set.n) stand.far

    pub goes_nowhere : stand.distance ≤ key / 128 → goes q u ≡ none
    unfolding goes_to
    goes_nowhere h = key_stays q.set.n (D q) (edge q) u (few stand.asked) (omega (arith, found, stand.far))

    pub goes_there : {id : ℕ} → id ≡ key % 128 → key / 128 < stand.distance → There id (key / 128)
    unfolding goes_to
    goes_there {id} e h =
        let to = key_moves q.set.n (D q) (edge q) u (few stand.asked) (omega (arith, found, stand.far)) in
        rw (e, found) (record { goes = to.0; inside = to.1; far = to.2 })
