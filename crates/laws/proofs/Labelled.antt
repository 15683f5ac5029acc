-- The label that `rules` computes is that of document 01's rule: of a direct point with the least distance to v, the largest number that passes. Assumes nothing.
use Prim.Native.Nat.{ℕ, ◌≤◌, ◌<◌}
use native.Mathlib.Nat.{lt_irrefl}
use native.Mathlib.Omega.{arith}
use mathlib.Core.Path.{◌≡◌, sym, ap, ◌∙◌}
use mathlib.Core.Logic.{◌≢◌, ⊎_elim}
use mathlib.Core.Bool.{Bool, true, false}
use Rattle.rules.specs.Edges.{between, DirectRule, Symmetric}
use Rattle.rules.specs.Labels.{leads, label}
use Rattle.laws.specs.Labelled.{Among, LabelBy}
use Rattle.laws.proofs.Order.{first-none, first_some, first_cases}
use Rattle.laws.proofs.Edges.{rule_hidden, between_is, direct_one}
use Rattle.laws.proofs.Labels.{label_passes, label_most}
use Rattle.laws.proofs.Table.{leads-is, label-some}

module _ (δ : ℕ → ℕ → ℕ) (symm : Symmetric δ) (n : ℕ) (g : ℕ → ℕ → Bool) (rule : DirectRule δ n g) where
  -- to lead, in the words of the rule for direct edges
  leads_among : (u v w : ℕ) → u < n → w < n → leads δ n u v w ≡ true → Among δ n g u v w
  leads_among u v w lu lw e = let h = (leads-is δ n u v w).0 e in (lw, h.0, direct_one δ symm n g rule u w lu lw h.0 ∙ h.1, h.2)

  among_leads : (u v w : ℕ) → u < n → Among δ n g u v w → leads δ n u v w ≡ true
  among_leads u v w lu h =
      (leads-is δ n u v w).1 (h.1, sym (direct_one δ symm n g rule u w lu h.0 h.1) ∙ h.2, h.3)

  -- where the edge is not direct, the point that hides it leads, and it is nearer to v than u is
  hider_leads : (u v : ℕ) → u < n → v < n → u ≢ v → g u v ≡ false → (r : ℕ) × (r < n) × (leads δ n u v r ≡ true) × (δ r v < δ u v)
  hider_leads u v lu lv d e =
      let f = rule_hidden (between δ) n g rule u v lu lv d e in
      let r = f.0 in
      let b = (between_is δ u v r).0 f.2 in
      let other : u ≢ r = λ q. lt_irrefl (δ u v) (omega (arith, b.1, symm u v, ap (δ v) q)) in
      (r, f.1, among_leads u v r lu (f.1, other, f.3, b.0), omega (arith, b.1, symm v r))

  pub label-by_rule : (u v : ℕ) → u < n → v < n → u ≢ v → δ u v ≤ 4161600 → g u v ≡ false → (w : ℕ) × LabelBy δ n g u v w (label δ n u v)
  label-by_rule u v lu lv d small e =
      let f = hider_leads u v lu lv d e in
      ⊎_elim
      (λ z. absurd (first-none (λ w. δ w v) n (leads δ n u v) z f.0 f.1 f.2))
      (λ s.
      let w = s.0 in
      let l = first_some (λ w. δ w v) n (leads δ n u v) s.1 in
      let near : δ w v ≤ δ u v = omega (arith, l.2 f.0 f.1 f.2, f.3) in (
        w,
        rw (label-some δ n u v s.1) (record {
          among = leads_among u v w lu l.0 l.1;
          least = λ y h. l.2 y h.0 (among_leads u v y lu h);
          reached = label_passes (δ u v) (δ w v) near;
          most = λ t p. label_most (δ u v) (δ w v) t small p;
        }),
      ))
      (first_cases (λ w. δ w v) n (leads δ n u v))
