-- `lines::sink::Page::number` meets its contract. Assumes nothing.
use Rattle.std.proofs.Common.{arith, ◌+◌, ap, refl}
use lib.ListN.{length-set}
use Rattle.rules.specs.Lines.{part, decimal}
use Rattle.lines.proofs.Digits.{length_part}
use Rattle.lines.proofs.Puts.{set_then}
use Rattle.lines.proofs.sink.PageSink.number.Goals as goal

pub bounds-self-self : goal.bounds-self-self
bounds-self-self c = omega (arith, c.part_length-length.ensures.is, length_part c.args.x)

pub put_decimal-requires : goal.put_decimal-requires
put_decimal-requires c =
    let page = c.args.self.now in (
      omega (arith, c.part_length-length.ensures.is, length_part c.args.x),
      omega (arith, page.inside, length-set page.output.now page.at 32),
    )

pub returns : goal.returns
unfolding part
returns c =
    let page = c.args.self.now in
    let long = c.part_length-length.ensures.is in
    let put = c.put_decimal.ensures in
    let done =
    set_then page.at 32 (decimal c.args.x) page.output.now _ _ (ap (λ n. page.at + n) long) (omega (arith, page.inside)) put.start put.written put.before in
    record { ok = record { ends = ap (λ n. page.at + n) long; written = done.0; kept = done.1; size = done.2; same_reference = refl }; err = tt }
