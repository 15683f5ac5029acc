-- `search::Front::see` meets its contract. Assumes nothing.
use Prim.Native.Nat.{◌<◌}
use mathlib.Core.Path.{◌≡◌, refl}
use native.Mathlib.Omega.{arith}
use lib.ListN.{length, get_or}
use borrow.Author.Rules.{rules}
use Rattle.search.specs.declared.see.Mark.TheVariants.{Unseen, Waiting}
use Rattle.search.proofs.Listing.{rest_mark}
use Rattle.search.proofs.Places.{written_back}
use Rattle.search.proofs.Seeing.{few, line_room, see_lined}
use Rattle.search.proofs.see.Front.see.Goals as goal

pub bounds-self-from : goal.bounds-self-from
bounds-self-from c = omega (arith, few c.args.self.now.asked)

pub bounds-self-from-2 : goal.bounds-self-from-2
bounds-self-from-2 c = omega (arith, few c.args.self.now.asked)

pub push-requires : goal.push-requires
push-requires c =
    let self = c.args.self.now in
    let unseen : get_or self.marks c.args.id Unseen ≡ Unseen = search rules in
    let room : length self.line.items < 128 = omega (arith, few self.asked, line_room _ _ (few self.asked) self.lined c.args.id c.requires unseen) in
    (search rules, room)

pub invariant_of-self : goal.invariant_of-self
invariant_of-self c =
    let self = c.args.self.now in
    let unseen : get_or self.marks c.args.id Unseen ≡ Unseen = search rules in
    let there : c.args.id < length self.marks = omega (arith, few self.asked, self.lined.marks_size) in
    let line = written_back c.push.ensures.items c.as_mut_slice.ensures.value c.key-key.ensures c.put-at.ensures in
    rw (c.from-2.ensures, c.min-self.ensures) (record {
      lined = see_lined _ _ (few self.asked) self.lined c.args.id c.requires unseen line;
      listed = rest_mark self.listed c.args.id Waiting there refl;
    })
