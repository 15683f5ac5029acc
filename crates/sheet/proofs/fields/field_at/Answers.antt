-- `sheet::fields::field_at` meets its contract. Assumes nothing.
use Rattle.std.proofs.Common.{arith}
use Rattle.rules.specs.Bits.{Bytes}
use Rattle.sheet.proofs.Three.{field_there}
use Rattle.sheet.proofs.fields.field_at.Goals as goal

pub returns : goal.returns
unfolding Bytes
returns c =
    let a = c.args in
    field_there a.sheet.now a.at a.bits (λ i. omega (arith, c.type_inv.sheet i)) c.bits_at-there.ensures c.three_at-three.ensures
