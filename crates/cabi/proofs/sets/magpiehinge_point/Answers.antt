-- `cabi::sets::magpiehinge_point` meets its contract. Assumes nothing.
use mathlib.Core.Path.{sym}
use native.Mathlib.Nat.{mul-le-mul, le_of_lt}
use native.Mathlib.Omega.{arith}
use Rattle.laws.proofs.Refusals.{after_new}
use Rattle.space.proofs.Measured.{point_ok}
use Rattle.cabi.proofs.sets.magpiehinge_point.Goals as goal

pub overflow_mul-start : goal.overflow_mul-start
overflow_mul-start c =
    let ok = point_ok _ _ _ _ (sym c.in-Ok.ensures) in
    omega (arith, mul-le-mul (le_of_lt ok.1) ok.0.few-coordinates, mul-le-mul ok.0.few-points ok.0.few-coordinates)

pub returns-in-Ok : goal.returns-in-Ok
returns-in-Ok c = record {
  refusal = c.in-Ok.ensures;
  start = sym (after_new (sym c.in-Ok.ensures) _ _);
  count = sym (after_new (sym c.in-Ok.ensures) _ _);
}
