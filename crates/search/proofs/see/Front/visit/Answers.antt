-- `search::Front::visit` meets its contract. Assumes nothing.
use Prim.Native.Nat.{◌<◌}
use mathlib.Core.Path.{refl}
use native.Mathlib.Omega.{arith}
use lib.ListN.{length}
use Rattle.search.specs.declared.see.Mark.TheVariants.{Walked}
use Rattle.search.proofs.Listing.{rest_mark}
use Rattle.search.proofs.Seeing.{few}
use Rattle.search.proofs.Visiting.{mark_lined}
use Rattle.search.proofs.see.Front.visit.Goals as goal

pub invariant_of-self : goal.invariant_of-self
invariant_of-self c =
    let self = c.args.self.now in
    let there : c.args.x < length self.marks = omega (arith, few self.asked, self.lined.marks_size) in
    record { lined = mark_lined _ _ there c.requires.1 self.lined; listed = rest_mark self.listed c.args.x Walked there refl }
