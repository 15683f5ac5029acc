-- `sheet::put::Pen::part` meets its contract. Assumes nothing.
use Rattle.std.proofs.Common.{◌<◌, ◌%◌, refl, arith}
use Rattle.sheet.proofs.Putting.{byte_small}
use Rattle.sheet.proofs.Pens.{puts_part}
use Rattle.sheet.proofs.put.Pen.part.Goals as goal

pub overflow_cast-self : goal.overflow_cast-self
overflow_cast-self c =
    let x = c.from.result in
    let small : x < 256 = omega arith in
    record { fits = byte_small x (c.args.self.now.next % 8) c.args.k c.args.v small c.requires.some c.requires.inside }

pub returns : goal.returns
returns c =
    puts_part _ _ c.args.k c.args.v c.requires.some c.requires.inside c.requires.room c.from.ensures (omega arith) refl refl refl
