-- `sheet::place::Place::fill` meets its contract. Assumes nothing.
use Rattle.std.proofs.Common.{refl, ap, ◌∙◌, rules, min}
use Rattle.rules.specs.Sheet.{field_at}
use Rattle.sheet.proofs.Filled.{filled_none, filled_more, read_small}
use Rattle.sheet.proofs.place.Place.fill.Goals as goal

pub loop-cell-init : goal.loop-cell-init
loop-cell-init c = record { sheet = refl; filled = filled_none _ _ c.args.width.c _ }

pub value-requires : goal.value-requires
value-requires c = read_small _ _ c.args.width.c c.args.width.few c.take.ensures.value

pub loop-cell-preserved : goal.loop-cell-preserved
loop-cell-preserved c =
    let l = c.loop-cell in
    let t = c.take.ensures in
    record {
      sheet = t.same ∙ l.invariant.sheet;
      filled =
          filled_more _ _ c.args.width.c _ l.cell-index l.self.next _ l.invariant.filled l.auto.buffer c.loop-cell-test.true c.args.width.few c.requires
          (t.value ∙ ap (λ s. field_at s.now l.self.next (min c.args.width.c 16)) l.invariant.sheet) t.moved c.value.ensures
          (record { sfits = search rules });
    }
