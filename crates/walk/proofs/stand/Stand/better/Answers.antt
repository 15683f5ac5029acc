use native.Mathlib.Omega.{arith}
use Rattle.walk.proofs.Standing.{few}
use Rattle.walk.proofs.stand.Stand.better.Goals as goal

pub overflow_cast-id : goal.overflow_cast-id
overflow_cast-id c = record { fits = omega (arith, c.requires, few c.args.self.now.asked) }
