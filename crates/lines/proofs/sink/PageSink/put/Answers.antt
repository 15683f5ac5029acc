-- `lines::sink::Page::put` meets its contract. Assumes nothing.
use Rattle.std.proofs.Common.{rules, refl}
use Rattle.std.proofs.lemmas.Slice.{overwrites}
use Rattle.lines.proofs.sink.PageSink.put.Goals as goal

pub returns : goal.returns
returns c = record {
  ok = record {
    ends = refl;
    written = search (rules, overwrites);
    kept = search (rules, overwrites);
    size = search (rules, overwrites);
    same_reference = refl;
  };
  err = tt;
}
