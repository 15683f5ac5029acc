-- `sheet::put::Pen::asks` meets its contract. The invariant: the asks that are left, put where the pen is, give what all of them give.
-- Assumes nothing.
use Rattle.std.proofs.Common.{◌≡◌}
use Rattle.std.specs.List.{concat}
use Rattle.std.specs.Iterator.Adapters.{zip_first, zip_second}
use Rattle.std.specs.Slice.Iter.{iter_rest, chunks_exact_rest, chunks_exact_size}
use Rattle.sheet.specs.Answers.{held}
use Rattle.sheet.specs.Pen.{asks_in}
use Rattle.sheet.proofs.Refusing.{Fours}
use Rattle.sheet.proofs.Asking.{Asks}
use Rattle.sheet.proofs.put.Pen.asks.Given as goal

abbrev pub invariant-loop-row : goal.invariant-loop-row
invariant-loop-row l =
    let head = l.sheet.contents.head in
    record {
      four : Fours (iter_rest (zip_first l.row-iterator));
      long : chunks_exact_size (zip_second l.row-iterator) ≡ head.d;
      asks : Asks head.d head.c l.initial.self l.self (asks_in (held l.sheet.contents)) (concat (iter_rest (zip_first l.row-iterator))) (chunks_exact_rest (zip_second l.row-iterator));
    }
