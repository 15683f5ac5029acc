-- `space::set_refusal` meets its contract: each return rewrites with the tests that led there. Assumes nothing.
use mathlib.Core.Path.{◌≡◌, sym, ◌∙◌}
use mathlib.Core.Bool.{false}
use native.Mathlib.Omega.{arith}
use borrow.Author.Tests.{eq-eqb, ne_eqb}
use Rattle.rules.specs.Refusals.{outside, set_refusal}
use Rattle.laws.proofs.Refusals.{inside, small_product}
use Rattle.space.proofs.set_refusal.Goals as goal

-- n and d are within their limits where the vectors are looked at
points-ok : (c : goal.Else-is_outside-2) → outside 1 128 c.args.n ≡ false
points-ok c = sym c.is_outside.ensures ∙ c.if-is_outside.false

coordinates-ok : (c : goal.Else-is_outside-2) → outside 1 64 c.args.d ≡ false
coordinates-ok c = sym c.is_outside-2.ensures ∙ c.if-is_outside-2.false

pub returns-then-is_outside : goal.returns-then-is_outside
unfolding set_refusal
returns-then-is_outside c = simp (sym c.is_outside.ensures ∙ c.if-is_outside.true)

pub returns-then-is_outside-2 : goal.returns-then-is_outside-2
unfolding set_refusal
returns-then-is_outside-2 c =
    simp (sym c.is_outside.ensures ∙ c.if-is_outside.false, sym c.is_outside-2.ensures ∙ c.if-is_outside-2.true)

pub overflow_mul-n : goal.overflow_mul-n
overflow_mul-n c =
    let a = c.args in
    let l = inside 1 128 a.n (points-ok c) in
    let m = inside 1 64 a.d (coordinates-ok c) in
    record { fits = omega (arith, small_product a.n a.d l.1 m.1) }

pub returns-then-vectors-n : goal.returns-then-vectors-n
unfolding set_refusal
returns-then-vectors-n c = simp (points-ok c.before, coordinates-ok c.before, ne_eqb _ _ c.if-vectors-n.true)

pub returns : goal.returns
unfolding set_refusal
returns c = simp (points-ok c.before, coordinates-ok c.before, eq-eqb _ _ c.if-vectors-n.false)
