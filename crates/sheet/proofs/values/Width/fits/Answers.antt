-- `sheet::values::Width::fits` meets its contract. Assumes nothing.
use Rattle.sheet.proofs.Signs.{fits_by}
use Rattle.sheet.proofs.values.Width.fits.Goals as goal

pub returns : goal.returns
returns c = fits_by c.args.self.c c.args.z c.args.self.some c.args.self.few c.ranges.z c.from.ensures c.contains.ensures.value
