use Prim.Native.Nat.{ℕ, ◌+◌, ◌*◌}
use mathlib.Core.Path.{◌≡◌, refl, ap, ◌∙◌}
use Rattle.rules.specs.Order.{keyed}
use native.Mathlib.Omega.{arith}
use lib.ListN.{length, length-replicate}
use Rattle.table.specs.Rows.{top}
use Rattle.table.proofs.Mapped.{mapped_more}
use Rattle.table.proofs.Starting.{queued}
use Rattle.table.proofs.rows.queue.Goals as goal

pub loop-v-preserved : goal.loop-v-preserved
unfolding keyed
loop-v-preserved c =
    let long : length c.loop-v.left ≡ 128 = c.loop-v.invariant.long ∙ length-replicate 128 top in
    mapped_more c.loop-v.invariant (omega (arith, c.args.distances.now.both_ways.few)) (ap (λ (D : ℕ). D * 128 + c.loop-v.v) c.between.ensures)

pub returns : goal.returns
returns c = queued c.args.distances.now.both_ways.few c.requires.u_in refl (omega arith) c.loop-v.invariant
