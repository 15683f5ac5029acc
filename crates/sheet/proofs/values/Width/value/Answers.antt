-- `sheet::values::Width::value` meets its contract. Assumes nothing.
use Rattle.sheet.proofs.Signs.{front_small, sign_is}
use Rattle.sheet.proofs.values.Width.value.Goals as goal

pub overflow_cast-u : goal.overflow_cast-u
overflow_cast-u c = record { fits = front_small c.args.self.c c.args.u c.args.self.some c.args.self.few c.requires }

pub returns : goal.returns
returns c = sign_is c.args.self.c c.args.u c.args.self.some c.args.self.few c.requires c.cast_signed.ensures
