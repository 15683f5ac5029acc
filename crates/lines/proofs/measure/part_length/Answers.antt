-- `lines::measure::part_length` meets its contract. Assumes nothing.
use Rattle.lines.proofs.Lengths.{part-length_of}
use Rattle.lines.proofs.measure.part_length.Goals as goal

pub returns : goal.returns
returns c = part-length_of c.digits.ensures
