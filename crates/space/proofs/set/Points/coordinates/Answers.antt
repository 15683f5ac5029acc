-- A set that is not refused has all its points. Assumes nothing.
use Prim.Native.Nat.{ℕ, ◌+◌, ◌*◌, ◌≤◌, ◌<◌}
use mathlib.Core.Path.{◌≡◌, sym}
use native.Mathlib.Nat.{add-sub_cancel_left}
use native.Mathlib.Omega.{arith}
use Rattle.rules.specs.Points.{coordinates}
use Rattle.rules.specs.Refusals.{set_refusal}
use Rattle.laws.proofs.Refusals.{set_ok, room, small_product}
use Rattle.space.proofs.Measured.{past-points}
use Rattle.space.proofs.set.Points.coordinates.Goals as goal

-- the part is in the vectors, which are few
fits : (n d len id : ℕ) → set_refusal n d len ≡ 0 → id < n → (id * d + d ≤ len) × (len ≤ 8192)
fits n d len id given l =
    let ok = set_ok _ _ _ given in
    (room id ok l, omega (arith, ok.whole, small_product n d ok.few-points ok.few-coordinates))

pub returns-then-set-id : goal.returns-then-set-id
returns-then-set-id c = sym (past-points _ _ _ c.args.self.now.given _ c.if-set-id.true)

pub overflow_mul-at : goal.overflow_mul-at
overflow_mul-at c = let f = fits _ _ _ _ c.args.self.now.given c.if-set-id.false in record { fits = omega (arith, f) }

pub overflow_add-end : goal.overflow_add-end
overflow_add-end c = let f = fits _ _ _ _ c.args.self.now.given c.if-set-id.false in record { fits = omega (arith, f) }

pub slice_bounds-result-end-2 : goal.slice_bounds-result-end-2
slice_bounds-result-end-2 c = let f = fits _ _ _ _ c.args.self.now.given c.if-set-id.false in omega (arith, f)

pub returns : goal.returns
unfolding coordinates
returns c = simp add-sub_cancel_left
