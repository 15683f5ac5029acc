-- `search::Front::reach` meets its contract. Assumes nothing.
use native.Mathlib.Omega.{arith}
use Rattle.search.proofs.Listing.{reached_marked, rest_leave}
use Rattle.search.proofs.Seeing.{few}
use Rattle.search.proofs.see.Front.reach.Goals as goal

pub invariant_of-self : goal.invariant_of-self
invariant_of-self c =
    let old = c.args.self.now in
    let new = c.see.new.self in
    record {
      lined = new.lined;
      listed = rest_leave new.listed (omega arith) (rw (c.see.ensures.rest.0, c.see.ensures.marks) (reached_marked _ old.marks (omega (arith, few old.asked, old.lined.marks_size, old.listed.below c.args.i c.requires))));
    }
