-- Demand 3. Assumes nothing.
use Prim.Native.Nat.{ℕ, ◌≤◌, ◌<◌}
use mathlib.Core.Path.{◌≡◌}
use mathlib.Core.Bool.{Bool, true}
use Rattle.rules.specs.Order.{Ordered}
use Rattle.rules.specs.Edges.{Closing, Symmetric}
use Rattle.laws.specs.Demand3.{Wider, Exact}
use Rattle.laws.proofs.Nearest.{firsts-nearest}
use Rattle.laws.proofs.Search.{search_wider, answer_wider}
use Rattle.laws.proofs.Whole.{all_seen, answer-whole}

module _ (n : ℕ) (key : ℕ → ℕ) (ordered : Ordered n key) (edge : ℕ → ℕ → Bool) (given : ℕ → Bool) (k : ℕ) where
  pub wider : (narrow wide : ℕ) → narrow ≤ wide → Wider n key edge given narrow wide k
  wider narrow wide le =
      let s = search_wider n key edge narrow wide le given in
      let a = answer_wider n key edge narrow wide le ordered given k in
      record { rest = s.0; trail = s.1; seen = s.2; more = a.0; places = a.1 }

  module _ (δ : ℕ → ℕ → ℕ) (symm : Symmetric δ) (width : ℕ) (wide : n ≤ width) (u : ℕ) (lu : u < n) (seen : given u ≡ true) where
    pub exact : Closing δ n edge → Exact n key edge given width k
    exact closing =
        let e = answer-whole n key edge width wide given δ symm closing u lu seen k in
        record {
          all_seen = all_seen n key edge width wide given δ symm closing u lu seen;
          answers = e;
          nearest = rw e (firsts-nearest key n ordered k (λ y. true));
        }
