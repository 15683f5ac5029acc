-- The label by halving: what lies below passes, what lies above fails, and the largest that passes is between. Assumes nothing.
use Prim.Native.Nat.{ℕ, ◌+◌, ◌-◌, ◌*◌, ◌/◌, ◌≤◌, ◌<◌}
use mathlib.Core.Path.{◌≡◌, sym, ap, subst, ◌∙◌}
use mathlib.Core.Bool.{Bool, true, false, cond, ◌&&◌}
use mathlib.Core.Logic.{⊎_elim}
use native.Mathlib.Nat.{mul-le-mul}
use native.Mathlib.Omega.{arith}
use lib.Dec.{leb}
use borrow.Author.Tests.{le-leb, lt-leb, leb-true, leb-false}
use Rattle.rules.specs.Labels.{reaches, not_above, label_of}
use Rattle.laws.proofs.Tests.{both, never}
use Rattle.laws.proofs.Labels.{label_is, reaches-less}

-- the test, with a less b taken once
reached : (a b s : ℕ) → 0 < s → reaches a b s ≡ leb s (a - b) && leb (4 * s * b) ((a - b - s) * (a - b - s))
unfolding reaches
reached a b s h =
    ⊎_elim
    (λ e. rw (e, le-leb s (a - b) (omega (arith, leb-true (b + s) a e))))
    (λ e. rw (e, lt-leb s (a - b) (omega (arith, leb-false (b + s) a e))))
    (both (leb (b + s) a))

pub further_is : (a b t : ℕ) {m x : ℕ} → 0 < t → m ≡ a - b → x ≡ m - t * t → reaches a b (t * t) ≡ leb (t * t) m && leb (4 * (t * t) * b) (x * x)
further_is a b t h em ex = rw (ex, em) (reached a b (t * t) (mul-le-mul h h))

pub record Halved (a b low width : ℕ) : Type 0 where
  pub some : 1 ≤ width
  pub within : low + width ≤ 32768
  pub passes : 0 < low → reaches a b (low * low) ≡ true
  pub fails : low + width < 32768 → reaches a b ((low + width) * (low + width)) ≡ false

-- a larger number than one that fails fails
fails_up : (a b s t : ℕ) → s ≤ t → reaches a b (s * s) ≡ false → reaches a b (t * t) ≡ false
fails_up a b s t h f =
    ⊎_elim (λ e. absurd (never (reaches-less a b (s * s) (t * t) (mul-le-mul h h) e) f)) (λ e. e) (both (reaches a b (t * t)))

pub halved_turn : {a b low width low' : ℕ} → Halved a b low width → 1 < width →
    low' ≡ cond (reaches a b ((low + width / 2) * (low + width / 2))) (low + width / 2) low → Halved a b low' (width - width / 2)
halved_turn {a} {b} {low} {width} {low'} h l e =
    ⊎_elim
    (λ t. subst (λ (k : ℕ). Halved a b k (width - width / 2)) (sym (e ∙ ap (λ (p : Bool). cond p (low + width / 2) low) t)) (up t))
    (λ f. subst (λ (k : ℕ). Halved a b k (width - width / 2)) (sym (e ∙ ap (λ (p : Bool). cond p (low + width / 2) low) f)) (down f))
    (both (reaches a b ((low + width / 2) * (low + width / 2))))
  where
    same : low + width / 2 + (width - width / 2) ≡ low + width
    same = omega arith

    up : reaches a b ((low + width / 2) * (low + width / 2)) ≡ true → Halved a b (low + width / 2) (width - width / 2)
    up t = record { some = omega arith; within = omega (arith, h.within); passes = λ z. t; fails = λ z. rw same (h.fails (omega arith)) }

    down : reaches a b ((low + width / 2) * (low + width / 2)) ≡ false → Halved a b low (width - width / 2)
    down f = record {
      some = omega arith;
      within = omega (arith, h.within);
      passes = h.passes;
      fails = λ z. fails_up a b (low + width / 2) (low + (width - width / 2)) (omega arith) f;
    }

-- two numbers side by side
pub label_halved : {a b low width : ℕ} (duv dwv : ℕ) → Halved a b low width → width ≤ 1 → a ≡ 256 * duv → b ≡ 256 * dwv → low ≡ label_of duv dwv
unfolding not_above
label_halved {a} {b} {low} {width} duv dwv h l p q =
    let e : width ≡ 1 = omega (arith, h.some) in
    label_is
    duv
    dwv
    low
    (omega (arith, h.within))
    (λ z. rw (p, q) at (h.passes z))
    (λ z. rw (p, q, e) at (h.fails (omega arith)))
