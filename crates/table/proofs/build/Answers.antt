-- Where it refuses nothing is changed; else the distances begin as zeros, which are the same both ways.
use mathlib.Core.Path.{refl, sym, ◌∙◌}
use Rattle.laws.proofs.Refusals.{after_old, set_ok}
use Rattle.rules.specs.Entries.{table_after}
use Rattle.space.proofs.Told.{number-some}
use Rattle.table.proofs.Filling.{mutual_zeros}
use Rattle.table.proofs.Whole.{built}
use Rattle.table.proofs.build.Goals as goal

pub returns-in_err-points-clause-written : goal.returns-in_err-points-clause-written
unfolding table_after
returns-in_err-points-clause-written c =
    sym (after_old (λ e. number-some _ (c.in_err-points.ensures.refusal ∙ e)) _ _)

pub invariant_of-distances : goal.invariant_of-distances
invariant_of-distances c = record {
  long = refl;
  both_ways = mutual_zeros (set_ok _ _ _ c.in_ok-points.points.given).few-points;
}

pub returns-clause-written : goal.returns-clause-written
returns-clause-written c =
    let e = c.in_ok-points.ensures in
    let filled = rw e.same at c.fill.ensures.filled in
    c.write_rows.ensures ∙ rw (c.fill.ensures.same_n, e.same) (built _ _ _ filled e.refusal)
