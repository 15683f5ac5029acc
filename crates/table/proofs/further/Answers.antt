-- The code tests what `reaches` tests, with a less b taken once.
use mathlib.Core.Path.{◌∙◌, sym}
use native.Mathlib.Omega.{arith}
use Rattle.laws.proofs.Tests.{never}
use borrow.Author.Tests.{le-leb, lt-leb}
use Rattle.table.proofs.Halving.{further_is}
use Rattle.table.proofs.further.Goals.{then-s-most, else-s-most}
use Rattle.table.proofs.further.Goals as goal

pub returns-then-reaches : goal.returns-then-reaches
returns-then-reaches c =
    elim c.if-s-most.branch [
      | then-s-most w ↦ rw (further_is _ _ _ (omega arith) c.saturating_sub-most.ensures c.saturating_sub-x.ensures ∙ rw (le-leb _ _ w.if-s-most.true) (sym w.reaches-is) ∙ c.if-reaches.true)
      | else-s-most w ↦ absurd (never c.if-reaches.true (w.reaches-is ∙ lt-leb _ _ w.if-s-most.false))
    ]

pub returns-else-reaches : goal.returns-else-reaches
returns-else-reaches c =
    elim c.if-s-most.branch [
      | then-s-most w ↦ rw (further_is _ _ _ (omega arith) c.saturating_sub-most.ensures c.saturating_sub-x.ensures ∙ rw (le-leb _ _ w.if-s-most.true) (sym w.reaches-is) ∙ c.if-reaches.false)
      | else-s-most w ↦ rw (further_is _ _ _ (omega arith) c.saturating_sub-most.ensures c.saturating_sub-x.ensures, lt-leb _ _ w.if-s-most.false)
    ]
