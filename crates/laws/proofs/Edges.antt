-- The rule of edges has one solution, which `kept_in` computes; the direct edges, and every graph that has them, are closing. Assumes nothing.
use Prim.Native.Nat.{ℕ, zero, suc, ◌<◌}
use native.Mathlib.Nat.{not-suc-le-zero, lt_irrefl, lt-suc_self}
use native.Mathlib.Omega.{arith}
use mathlib.Core.Path.{◌≡◌, refl, sym, ap, ◌∙◌}
use mathlib.Core.Logic.{◌↔◌, ◌≢◌, inl, inr, ⊎_elim}
use mathlib.Core.Bool.{Bool, true, false, not, ◌&&◌}
use lib.Dec.{ltb}
use borrow.Author.Tests.{ltb-true, lt-ltb, not-true}
use Rattle.rules.specs.Order.{any}
use Rattle.rules.specs.Edges.{Rule, kept_in, between, DirectRule, direct, Closing, Symmetric}
use Rattle.laws.proofs.Tests.{both, never, same, and_l, and_r, and_i, any_in, any_out, any_same}

-- an equation under a test is wanted only where the test passes
and_same : (a b c : Bool) → (a ≡ true → b ≡ c) → a && b ≡ a && c
and_same true b c h = h refl
and_same false b c h = refl

module _ (hides : ℕ → ℕ → ℕ → Bool) (n : ℕ) where
  -- whether some r below n with a kept edge from u hides v from u
  hidden : (ℕ → ℕ → Bool) → ℕ → ℕ → Bool
  hidden kept u v = any n (λ r. hides u v r && kept u r)

  hidden_by : (kept : ℕ → ℕ → Bool) (u v r : ℕ) → r < n → hides u v r ≡ true → kept u r ≡ true → hidden kept u v ≡ true
  unfolding hidden
  hidden_by kept u v r l h k = any_in n (λ r. hides u v r && kept u r) r l (and_i (hides u v r) (kept u r) h k)

  hider : (kept : ℕ → ℕ → Bool) (u v : ℕ) → hidden kept u v ≡ true → (r : ℕ) × (r < n) × (hides u v r ≡ true) × (kept u r ≡ true)
  unfolding hidden
  hider kept u v e =
      let f = any_out n (λ r. hides u v r && kept u r) e in (
        f.0,
        f.1,
        and_l (hides u v f.0) (kept u f.0) f.2,
        and_r (hides u v f.0) (kept u f.0) f.2,
      )

  -- a table that meets the rule as an equation meets the rule
  rule_of : (kept : ℕ → ℕ → Bool) → ((u v : ℕ) → kept u v ≡ not (hidden kept u v)) → Rule hides n kept
  rule_of kept eq u v lu lv d = (
    λ t r l h k. never (hidden_by kept u v r l h k) (not-true (hidden kept u v) (sym (eq u v) ∙ t)),
    λ clear.
        eq u v ∙ ap not (⊎_elim (λ e. let f = hider kept u v e in absurd (clear f.0 f.1 f.2 f.3)) (λ e. e) (both (hidden kept u v))),
  )

  module _ (δ : ℕ → ℕ → ℕ) (nearer : (u v r : ℕ) → hides u v r ≡ true → δ u r < δ u v) where
    kept_in-suc : (fuel u v : ℕ) → kept_in hides n (suc fuel) u v ≡ not (hidden (kept_in hides n fuel) u v)
    unfolding kept_in hidden
    kept_in-suc fuel u v = refl

    hidden_same : (a b : ℕ → ℕ → Bool) (u v : ℕ) → ((r : ℕ) → hides u v r ≡ true → a u r ≡ b u r) → hidden a u v ≡ hidden b u v
    unfolding hidden
    hidden_same a b u v h = any_same n _ _ (λ r l. and_same (hides u v r) (a u r) (b u r) (h r))

    -- more fuel than δ u v changes nothing
    kept_in_enough : (f g u v : ℕ) → δ u v < f → δ u v < g → kept_in hides n f u v ≡ kept_in hides n g u v
    unfolding kept_in
    kept_in_enough zero g u v p q = absurd (not-suc-le-zero p)
    kept_in_enough (suc f) zero u v p q = absurd (not-suc-le-zero q)
    kept_in_enough (suc f) (suc g) u v p q =
        kept_in-suc f u v
        ∙ ap
        not
        (hidden_same (kept_in hides n f) (kept_in hides n g) u v (λ r h. kept_in_enough f g u r (omega (arith, nearer u v r h)) (omega (arith, nearer u v r h))))
        ∙ sym (kept_in-suc g u v)

    -- the rule holds of what is computed
    pub kept_rule : Rule hides n (λ u v. kept_in hides n (suc (δ u v)) u v)
    kept_rule =
        rule_of (λ u v. kept_in hides n (suc (δ u v)) u v) λ u v.
        kept_in-suc (δ u v) u v
        ∙ ap
        not
        (hidden_same (kept_in hides n (δ u v)) (λ u v. kept_in hides n (suc (δ u v)) u v) u v
        (λ r h. kept_in_enough (δ u v) (suc (δ u r)) u r (nearer u v r h) (lt-suc_self (δ u r))))

    -- and of no other table
    module _ (apart : (u v r : ℕ) → u < n → v < n → r < n → hides u v r ≡ true → u ≢ r) (a b : ℕ → ℕ → Bool) (ra : Rule hides n a) (rb : Rule hides n b) where
      one_in : (m u v : ℕ) → δ u v < m → u < n → v < n → u ≢ v → a u v ≡ b u v
      one_in zero u v h lu lv d = absurd (not-suc-le-zero h)
      one_in (suc m) u v h lu lv d =
          let below : (r : ℕ) → r < n → hides u v r ≡ true → a u r ≡ b u r =
          λ r l k. one_in m u r (omega (arith, nearer u v r k)) lu l (apart u v r lu lv l k) in
          same
          (a u v)
          (b u v)
          (λ t. (rb u v lu lv d).1 λ r l k e. (ra u v lu lv d).0 t r l k (below r l k ∙ e))
          (λ t. (ra u v lu lv d).1 λ r l k e. (rb u v lu lv d).0 t r l k (sym (below r l k) ∙ e))

      pub rule_one : (u v : ℕ) → u < n → v < n → u ≢ v → a u v ≡ b u v
      rule_one u v = one_in (suc (δ u v)) u v (lt-suc_self (δ u v))

  module _ (kept : ℕ → ℕ → Bool) (rule : Rule hides n kept) where
    -- an edge that is not kept is hidden by one that is
    pub rule_hidden : (u v : ℕ) → u < n → v < n → u ≢ v → kept u v ≡ false → (r : ℕ) × (r < n) × (hides u v r ≡ true) × (kept u r ≡ true)
    rule_hidden u v lu lv d f =
        ⊎_elim
        (λ e. hider kept u v e)
        (λ e. absurd (never ((rule u v lu lv d).1 (λ r l h k. never (hidden_by kept u v r l h k) e)) f))
        (both (hidden kept u v))

    -- where what hides v is nearer to v, the table is closing
    pub rule_closing : (δ : ℕ → ℕ → ℕ) → ((u v r : ℕ) → u < n → v < n → r < n → hides u v r ≡ true → δ v r < δ u v) → Closing δ n kept
    rule_closing δ closer u v lu lv d =
        ⊎_elim
        inl
        (λ e. let f = rule_hidden u v lu lv d e in inr (f.0, f.1, f.3, closer u v f.0 lu lv f.1 f.2))
        (both (kept u v))

-- ---- the direct edges

module _ (δ : ℕ → ℕ → ℕ) where
  pub between_is : (u v r : ℕ) → (between δ u v r ≡ true) ↔ ((δ u r < δ u v) × (δ v r < δ u v))
  unfolding between
  between_is u v r = (
    λ e. (
      ltb-true (δ u r) (δ u v) (and_l (ltb (δ u r) (δ u v)) (ltb (δ v r) (δ u v)) e),
      ltb-true (δ v r) (δ u v) (and_r (ltb (δ u r) (δ u v)) (ltb (δ v r) (δ u v)) e),
    ),
    λ h. and_i (ltb (δ u r) (δ u v)) (ltb (δ v r) (δ u v)) (lt-ltb (δ u r) (δ u v) h.0) (lt-ltb (δ v r) (δ u v) h.1),
  )

  pub direct_rule : (n : ℕ) → DirectRule δ n (direct δ n)
  unfolding direct
  direct_rule n = kept_rule (between δ) n δ (λ u v r h. ((between_is u v r).0 h).0)

  -- the rule has one solution
  pub direct_one : Symmetric δ → (n : ℕ) (d : ℕ → ℕ → Bool) → DirectRule δ n d → (u v : ℕ) → u < n → v < n → u ≢ v → d u v ≡ direct δ n u v
  direct_one symm n d rule =
      rule_one
      (between δ)
      n
      δ
      (λ u v r h. ((between_is u v r).0 h).0)
      (λ u v r lu lv lr h e. lt_irrefl (δ u v) (omega (arith, ((between_is u v r).0 h).1, symm u v, ap (δ v) e)))
      d
      (direct δ n)
      rule
      (direct_rule n)

  pub direct_closing : (n : ℕ) → Closing δ n (direct δ n)
  direct_closing n = rule_closing (between δ) n (direct δ n) (direct_rule n) δ (λ u v r lu lv lr h. ((between_is u v r).0 h).1)

  -- more edges, as at a larger threshold, leave a graph closing
  pub closing_more : Symmetric δ → (n : ℕ) (a b : ℕ → ℕ → Bool) → ((u v : ℕ) → u < n → v < n → u ≢ v → a u v ≡ true → b u v ≡ true) → Closing δ n a →
      Closing δ n b
  closing_more symm n a b more c u v lu lv d =
      ⊎_elim
      (λ e. inl (more u v lu lv d e))
      (λ f. inr (f.0, f.1, more u f.0 lu f.1 (λ e. lt_irrefl (δ u v) (omega (arith, f.3, symm u v, ap (δ v) e))) f.2, f.3))
      (c u v lu lv d)
