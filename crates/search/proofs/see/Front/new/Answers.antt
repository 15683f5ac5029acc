-- `search::Front::new` meets its contract. Assumes nothing.
use Rattle.search.proofs.Listing.{rest-start}
use Rattle.search.proofs.Seeing.{few}
use Rattle.search.proofs.Starting.{nothing_seen}
use Rattle.search.proofs.see.Front.new.Goals as goal

pub invariant_of-result : goal.invariant_of-result
invariant_of-result c =
    record { lined = rw c.new.ensures (nothing_seen _ _); listed = rest-start c.every_id.ensures (few c.args.asked) _ }
