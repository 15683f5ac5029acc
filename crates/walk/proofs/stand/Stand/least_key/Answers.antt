use mathlib.Core.Path.{sym, ◌∙◌}
use Rattle.walk.proofs.Least.{least-none_yet, least_more}
use Rattle.walk.proofs.stand.Stand.least_key.Goals as goal

pub loop-id-init : goal.loop-id-init
loop-id-init c = sym (least-none_yet _ _ _)

pub loop-id-preserved : goal.loop-id-preserved
loop-id-preserved c = c.better-best.ensures ∙ least_more _ _ _ _ c.loop-id.invariant
