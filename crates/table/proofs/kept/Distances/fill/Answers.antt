use Prim.Native.Nat.{◌<◌}
use native.Mathlib.Nat.{not-suc-le-zero}
use native.Mathlib.Omega.{arith}
use mathlib.Core.Path.{refl, ◌∙◌}
use lib.ListN.{length-set}
use Rattle.table.proofs.Filling.{mutual_put, filled_more, begun_more, apart_comm}
use Rattle.table.proofs.kept.Distances.fill.Goals as goal

pub loop-u-init : goal.loop-u-init
loop-u-init c = record {
  same_n = c.requires;
  long = c.args.self.now.long;
  both_ways = c.args.self.now.both_ways;
  filled = record { each = λ i j li lj. absurd (not-suc-le-zero li) };
}

pub invariant_of-self : goal.invariant_of-self
invariant_of-self c =
    let i = c.loop-v.invariant in
    let few : c.loop-u.u < 128 = omega (arith, c.args.self.now.both_ways.few, c.loop-u-test.true) in
    record {
      long = simp length-set i.long;
      both_ways = mutual_put _ _ _ _ i.long few (omega arith) c.apart-x.ensures.bounded i.both_ways;
    }

pub loop-v-preserved : goal.loop-v-preserved
loop-v-preserved c =
    let i = c.loop-v.invariant in
    let d = c.apart-x.ensures in
    let few : c.loop-u.u < 128 = omega (arith, c.args.self.now.both_ways.few, c.loop-u-test.true) in
    record {
      same_n = i.same_n;
      long = simp length-set i.long;
      both_ways = mutual_put _ _ _ _ i.long few (omega arith) d.bounded i.both_ways;
      filled = filled_more _ refl i.filled i.long few (omega arith);
      begun = begun_more _ refl i.begun i.long few (omega arith) d.value (d.value ∙ apart_comm _ _ _ _);
    }
