-- `sheet::put::Pen::values` meets its contract. Assumes nothing.
use Rattle.std.proofs.Common.{◌∙◌, rules}
use Rattle.laws.proofs.Values.{length-value_bits}
use Rattle.sheet.proofs.Pens.{values_none, values_room, values_more, values_whole, moved_by}
use Rattle.sheet.proofs.put.Pen.values.Goals as goal

pub loop-z-init : goal.loop-z-init
loop-z-init c = values_none c.args.width.c c.args.zs.now c.args.width.few _

pub field-requires-clause-room : goal.field-requires-clause-room
field-requires-clause-room c =
    values_room c.args.width.c c.args.zs.now c.args.width.few _ _ c.loop-z.z-index c.loop-z-test.true c.loop-z.invariant c.requires.room

pub loop-z-preserved : goal.loop-z-preserved
loop-z-preserved c =
    let l = c.loop-z in
    values_more c.args.width.c c.args.zs.now c.args.width.few _ _ l.z-index c.loop-z-test.true l.invariant _ c.from.result c.requires.fit
    (record { sfits = search rules }) (c.from.ensures ∙ c.cast_unsigned.ensures) c.field.ensures.put

pub returns : goal.returns
returns c =
    let a = c.args in
    let put = values_whole a.width.c a.zs.now c.args.width.few _ _ _ c.loop-z-test.false c.loop-z.invariant in
    record { put = put; moved = moved_by _ _ _ put (length-value_bits a.width.c a.zs.now) }
