-- Document 01's rule for the label of an edge that is not direct, sentence by sentence, over any solution of the rule for direct edges: "take, among the
-- points w whose edge from u is direct and whose D(u,w) is less than D(u,v), one with the least distance to v. .. The label is the largest such t."
-- Nothing is computed here: that what `rules` computes is this is proofs/Labelled.
use Rattle.std.specs.Prelude.{ℕ, ◌≤◌, ◌<◌, ◌≡◌, ◌≢◌, Bool, true}
use Rattle.rules.specs.Labels.{not_above}

module _ (δ : ℕ → ℕ → ℕ) (n : ℕ) (direct : ℕ → ℕ → Bool) where
  -- w is among those points
  abbrev pub Among : ℕ → ℕ → ℕ → Type 0
  Among u v w = (w < n) × (u ≢ w) × (direct u w ≡ true) × (δ u w < δ u v)

  -- w is one with the least distance to v, and t is the label by it
  pub record LabelBy (u v w t : ℕ) : Type 0 where
    pub among : Among u v w
    pub least : (y : ℕ) → Among u v y → δ w v ≤ δ y v
    pub reached : not_above (δ u v) (δ w v) t ≡ true
    pub most : (s : ℕ) → not_above (δ u v) (δ w v) s ≡ true → s ≤ t
