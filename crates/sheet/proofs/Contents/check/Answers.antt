-- `sheet::Contents::check` meets its contract. Assumes nothing.
use Rattle.std.proofs.Common.{sym, ◌∙◌, rules}
use Rattle.std.proofs.lemmas.Bool.{false≢true}
use Rattle.rules.specs.Sheet.{sheet_length}
use Rattle.rules.specs.Bits.{byte_count}
use Rattle.laws.proofs.Writable.{shape_of}
use Rattle.sheet.proofs.Refusing.{accepted}
use Rattle.sheet.proofs.Contents.check.Goals as goal
use Rattle.sheet.proofs.Contents.check.Goals.{then-all_fit, else-all_fit}

pub invariant_of-result : goal.invariant_of-result
unfolding shape_of sheet_length byte_count
invariant_of-result c =
    record {
      can =
          elim c.if-all_fit.branch [
            | then-all_fit w ↦
                accepted _ c.in_ok-check_shape.ensures.refusal c.in_ok-check_asks.ensures (sym c.all_fit.ensures ∙ w.if-all_fit.true)
                (sym w.all_fit-then-all_fit.ensures ∙ sym w.value-is ∙ c.if-not-all_fit.false)
            | else-all_fit w ↦ absurd (false≢true (sym w.if-all_fit.false ∙ sym w.value-is ∙ c.if-not-all_fit.false))
          ];
      exact = search rules;
    }
