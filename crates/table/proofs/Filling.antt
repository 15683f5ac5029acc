-- The kept distances, as one pair after the other is put there. Assumes nothing.
use Prim.Native.Nat.{ℕ, ◌+◌, ◌*◌, ◌≤◌, ◌<◌}
use mathlib.Core.Path.{◌≡◌, sym, ◌∙◌}
use mathlib.Core.Logic.{◌≢◌, ◌⊎◌, inl, inr, ⊎_elim}
use mathlib.Core.List.{List}
use native.Mathlib.Nat.{lt_irrefl}
use native.Mathlib.Numerals.{add-one}
use native.Mathlib.Omega.{arith}
use lib.Dec.{eqb}
use lib.IntN.{ℤ}
use lib.ListN.{length, get_or, set, replicate, length-set, get_or-replicate}
use lib.Seq.{get_or-set_same, get_or-set_other}
use borrow.Author.Tests.{eqb-true, eqb-false}
use Rattle.rules.specs.Points.{coordinates, apart}
use Rattle.laws.proofs.Tests.{both, below}
use Rattle.laws.proofs.Distances.{dist_comm}
use Rattle.table.specs.Kept.{far, Mutual, Filled, Begun}

-- the first of two places that get the same number
set_twice : (b : List ℕ) (p q x : ℕ) → p < length b → get_or (set (set b p x) q x) p 0 ≡ x
set_twice b p q x l =
    ⊎_elim
    (λ e. rw (eqb-true p q e) (get_or-set_same (set b q x) q x 0 (simp length-set (rw (eqb-true p q e) at l))))
    (λ e. get_or-set_other (set b p x) q p x 0 (eqb-false p q e) ∙ get_or-set_same b p x 0 l)
    (both (eqb p q))

-- whether two ids are a pair
pairs : (i j u v : ℕ) → ((i ≡ u) × (j ≡ v)) ⊎ ((i ≡ u) × (j ≡ v) → ⊥)
pairs i j u v =
    ⊎_elim
    (λ p. ⊎_elim (λ q. inl (eqb-true i u p, eqb-true j v q)) (λ q. inr (λ h. eqb-false j v q h.1)) (both (eqb j v)))
    (λ p. inr (λ h. eqb-false i u p h.0))
    (both (eqb i u))

-- x at both places of the pair u, v
abbrev pub Put : List ℕ → ℕ → ℕ → ℕ → List ℕ
Put b u v x = set (set b (u * 128 + v) x) (v * 128 + u) x

put-there : (b : List ℕ) (u v x : ℕ) → length b ≡ 16384 → u < 128 → v < 128 → far (Put b u v x) u v ≡ x
unfolding far
put-there b u v x long lu lv = set_twice b (u * 128 + v) (v * 128 + u) x (omega arith)

put_back : (b : List ℕ) (u v x : ℕ) → length b ≡ 16384 → u < 128 → v < 128 → far (Put b u v x) v u ≡ x
unfolding far
put_back b u v x long lu lv = get_or-set_same (set b (u * 128 + v) x) (v * 128 + u) x 0 (simp length-set (omega arith))

put_other : (b : List ℕ) (u v x i j : ℕ) → i * 128 + j ≢ u * 128 + v → i * 128 + j ≢ v * 128 + u → far (Put b u v x) i j ≡ far b i j
unfolding far
put_other b u v x i j d e =
    get_or-set_other (set b (u * 128 + v) x) (v * 128 + u) (i * 128 + j) x 0 e ∙ get_or-set_other b (u * 128 + v) (i * 128 + j) x 0 d

-- two pairs of ids whose places differ
elsewhere : (i j u v : ℕ) → j < 128 → v < 128 → ((i ≡ u) × (j ≡ v) → ⊥) → i * 128 + j ≢ u * 128 + v
elsewhere i j u v lj lv d e = d (omega arith, omega arith)

-- both places of a pair got x, or neither
module _ (b : List ℕ) (u v x : ℕ) (long : length b ≡ 16384) (lu : u < 128) (lv : v < 128) where
  abbrev Same : ℕ → ℕ → Type 0
  Same i j = ((far (Put b u v x) i j ≡ x) × (far (Put b u v x) j i ≡ x)) ⊎ ((far (Put b u v x) i j ≡ far b i j) × (far (Put b u v x) j i ≡ far b j i))

  put_elsewhere : (i j : ℕ) → i < 128 → j < 128 → ((i ≡ u) × (j ≡ v) → ⊥) → ((i ≡ v) × (j ≡ u) → ⊥) → far (Put b u v x) i j ≡ far b i j
  put_elsewhere i j li lj p q = put_other b u v x i j (elsewhere i j u v lj lv p) (elsewhere i j v u lj lu q)

  put_same : (i j : ℕ) → i < 128 → j < 128 → Same i j
  put_same i j li lj =
      ⊎_elim
      (λ p. inl (rw (p.0, p.1) (put-there b u v x long lu lv, put_back b u v x long lu lv)))
      (λ p.
      ⊎_elim
      (λ q. inl (rw (q.0, q.1) (put_back b u v x long lu lv, put-there b u v x long lu lv)))
      (λ q. inr (put_elsewhere i j li lj p q, put_elsewhere j i lj li (λ h. q (h.1, h.0)) (λ h. p (h.1, h.0))))
      (pairs i j v u))
      (pairs i j u v)

  pub mutual_put : {n : ℕ} → x ≤ 4161600 → Mutual (far b) n → Mutual (far (Put b u v x)) n
  mutual_put small old = record {
    few = old.few;
    symm = λ i j li lj.
        ⊎_elim
        (λ s. s.0 ∙ sym s.1)
        (λ s. s.0 ∙ old.symm i j li lj ∙ sym s.1)
        (put_same i j (omega (arith, old.few)) (omega (arith, old.few)));
    small = λ i j li lj.
        ⊎_elim
        (λ s. rw s.0 small)
        (λ s. rw s.0 (old.small i j li lj))
        (put_same i j (omega (arith, old.few)) (omega (arith, old.few)));
  }

-- zeros are distances that are the same both ways
far-zeros : (u v : ℕ) → u < 128 → v < 128 → far (replicate 16384 0) u v ≡ 0
unfolding far
far-zeros u v lu lv = get_or-replicate 16384 (u * 128 + v) 0 0 (omega arith)

pub mutual_zeros : {n : ℕ} → n ≤ 128 → Mutual (far (replicate 16384 0)) n
mutual_zeros few = record {
  few = few;
  symm = λ u v lu lv. far-zeros u v (omega arith) (omega arith) ∙ sym (far-zeros v u (omega arith) (omega arith));
  small = λ u v lu lv. rw (far-zeros u v (omega arith) (omega arith)) (omega arith);
}

-- ---- one pair after the other

module _ {δ : ℕ → ℕ → ℕ} {u v : ℕ} (x : ℕ) {b b' : List ℕ} (put : b' ≡ Put b u v x) where
  pub filled_more : Filled δ u b → length b ≡ 16384 → u < 128 → v ≤ u → Filled δ u b'
  filled_more filled long lu lv = record {
    each = λ i j li lj.
        rw
        put
        (put_elsewhere b u v x long lu (omega arith) i j (omega arith) (omega arith) (λ h. lt_irrefl u (omega (arith, h.0))) (λ h. lt_irrefl u (omega (arith, h.1)))
        ∙ filled.each i j li lj);
  }

  pub begun_more : Begun δ u v b → length b ≡ 16384 → u < 128 → v ≤ u → x ≡ δ u v → x ≡ δ v u → Begun δ u (v + 1) b'
  begun_more begun long lu lv e f = record {
    there = λ j l.
        ⊎_elim
        (λ s. rw s (rw put (put-there b u v x long lu (omega arith) ∙ e)))
        (λ k.
        rw
        put
        (put_elsewhere b u v x long lu (omega arith) u j lu (omega arith) (λ h. lt_irrefl v (omega (arith, h.1))) (λ h. lt_irrefl v (omega (arith, h.0, h.1)))
        ∙ begun.there j k))
        (below (rw add-one at l));
    back = λ j l.
        ⊎_elim
        (λ s. rw s (rw put (put_back b u v x long lu (omega arith) ∙ f)))
        (λ k.
        rw
        put
        (put_elsewhere b u v x long lu (omega arith) j u (omega arith) lu (λ h. lt_irrefl v (omega (arith, h.0, h.1))) (λ h. lt_irrefl v (omega (arith, h.0)))
        ∙ begun.back j k))
        (below (rw add-one at l));
  }

-- D is the same both ways
pub apart_comm : (d : ℕ) (vectors : List ℤ) (u v : ℕ) → apart d vectors u v ≡ apart d vectors v u
unfolding apart
apart_comm d vectors u v = dist_comm (coordinates d vectors u) (coordinates d vectors v)
