-- `sheet::put::Pen::field` meets its contract. Assumes nothing.
use Rattle.std.proofs.Common.{arith}
use Rattle.laws.proofs.Bits.{length-bits}
use Rattle.sheet.proofs.Pens.{field_none, field_room, field_more, field_whole, moved_by}
use Rattle.sheet.proofs.put.Pen.field.Goals as goal

pub loop-k-init : goal.loop-k-init
loop-k-init c = record { few = omega arith; put = field_none _ c.args.w c.args.v }

pub part-requires-clause-room : goal.part-requires-clause-room
part-requires-clause-room c =
    let l = c.loop-k in
    field_room _ _ c.args.w l.k c.min-t.result c.args.v l.invariant.few (omega arith) l.invariant.put c.requires.room

pub loop-k-preserved : goal.loop-k-preserved
loop-k-preserved c =
    let l = c.loop-k in
    record {
      few = omega arith;
      put = field_more _ _ _ c.args.w l.k c.min-t.result c.args.v l.invariant.few (omega arith) l.invariant.put c.part.ensures;
    }

pub returns : goal.returns
returns c =
    let put = field_whole _ _ c.args.w c.loop-k.k c.args.v c.loop-k-test.false c.loop-k.invariant.put in
    record { put = put; moved = moved_by _ _ _ put (length-bits c.args.w c.args.v) }
