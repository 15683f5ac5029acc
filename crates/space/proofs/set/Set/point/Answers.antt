-- `space::Set::point` meets its contract: the part of the vectors, or an empty one. Assumes nothing.
use mathlib.Core.Path.{sym, ap, ◌∙◌}
use mathlib.Core.List.{[]}
use Rattle.rules.specs.Points.{coordinates}
use Rattle.rules.specs.Entries.{point_of}
use Rattle.laws.proofs.Refusals.{after_old}
use Rattle.laws.proofs.RefusalOrder.{point_order}
use Rattle.space.specs.declared.set.Set.{Set}
use Rattle.space.proofs.Measured.{point_is}
use Rattle.space.proofs.Told.{number-some, stopped}
use Rattle.space.proofs.set.Set.point.Goals as goal

pub returns-in-Ok : goal.returns-in-Ok
returns-in-Ok c =
    c.coordinates.ensures
    ∙ ap (λ (s : Set). coordinates s.d s.vectors.now c.args.id) c.in-Ok.ensures.same
    ∙ sym (point_is _ _ _ (sym c.in-Ok.ensures.refusal) _)

pub returns-in-Err : goal.returns-in-Err
unfolding point_of
returns-in-Err c =
    sym (after_old (λ e. number-some c.in-Err.field-0 (stopped _ _ (point_order _ _ _ _) c.in-Err.ensures.refusal ∙ e)) [] _)
