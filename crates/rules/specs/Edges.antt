-- Document 01, "Edges and labels": "A point r stands between u and v if D(u,r) and D(v,r) are both strictly less than D(u,v). For two different ids
-- u and v, the edge from u to v is direct exactly if no r stands between them with the edge from u to r itself direct. The question about r concerns
-- a smaller D, so the rule has one solution."
-- Over distances δ between ids; what δ is stands in `Points`.
use Rattle.std.specs.Prelude.{ℕ, zero, suc, ◌<◌, ◌≡◌, ◌↔◌, ◌≢◌, ◌⊎◌, Bool, true, false, not, ◌&&◌, ltb}
use Rattle.rules.specs.Order.{any}

module _ (hides : ℕ → ℕ → ℕ → Bool) (n : ℕ) where
  -- A rule of edges, where `hides u v r` says that r can hide v from u: the edge from u to another id v is kept exactly if no r hides v from u with
  -- the edge from u to r itself kept.
  abbrev pub Rule : (ℕ → ℕ → Bool) → Type 0
  Rule kept = (u v : ℕ) → u < n → v < n → u ≢ v → (kept u v ≡ true) ↔ ((r : ℕ) → r < n → hides u v r ≡ true → kept u r ≡ true → ⊥)

  -- the rule's question, asked at most as deep as the fuel
  unfoldable pub kept_in : ℕ → ℕ → ℕ → Bool
  kept_in zero u v = false
  kept_in (suc fuel) u v = not (any n (λ r. hides u v r && kept_in fuel u r))

module _ (δ : ℕ → ℕ → ℕ) where
  -- r stands between u and v
  unfoldable pub between : ℕ → ℕ → ℕ → Bool
  between u v r = ltb (δ u r) (δ u v) && ltb (δ v r) (δ u v)

  -- the rule of direct edges
  abbrev pub DirectRule : ℕ → (ℕ → ℕ → Bool) → Type 0
  DirectRule n direct = Rule between n direct

  -- whether the edge from u to v is direct: each question about an r concerns a smaller δ, so that δ u v and one are fuel enough
  unfoldable pub direct : ℕ → ℕ → ℕ → Bool
  direct n u v = kept_in between n (suc (δ u v)) u v

  -- from each id u to another id v there is an edge, or there is one to an r that is nearer to v than u is
  abbrev pub Closing : ℕ → (ℕ → ℕ → Bool) → Type 0
  Closing n edge = (u v : ℕ) → u < n → v < n → u ≢ v → (edge u v ≡ true) ⊎ ((r : ℕ) × (r < n) × (edge u r ≡ true) × (δ v r < δ u v))

  abbrev pub Symmetric : Type 0
  Symmetric = (u v : ℕ) → δ u v ≡ δ v u
