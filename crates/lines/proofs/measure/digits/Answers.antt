-- `lines::measure::digits` meets its contract. Assumes nothing.
use Rattle.std.proofs.Common.{arith, rules, sym}
use Rattle.lines.proofs.Digits.{length-small, counted_start, counted_step, counted_two, counted_four, counted_few, counted_end}
use Rattle.lines.proofs.measure.digits.Goals as goal

pub returns-then-x-lt10 : goal.returns-then-x-lt10
returns-then-x-lt10 c = record { is = sym (length-small c.args.x c.if-x-lt10.true); few = omega arith }

pub loop-rest-init : goal.loop-rest-init
loop-rest-init c = counted_start _

pub overflow_add-count : goal.overflow_add-count
overflow_add-count c = omega (arith, counted_few c.loop-rest.invariant (search rules))

pub loop-rest-preserved-then-rest-lt10000 : goal.loop-rest-preserved-then-rest-lt10000
loop-rest-preserved-then-rest-lt10000 c = counted_two c.loop-rest.invariant c.loop-rest-test.true

pub overflow_add-count-else-rest-lt10000 : goal.overflow_add-count-else-rest-lt10000
overflow_add-count-else-rest-lt10000 c = omega (arith, counted_few c.loop-rest.invariant (search rules))

pub loop-rest-preserved : goal.loop-rest-preserved
loop-rest-preserved c = counted_four c.loop-rest.invariant c.if-rest-lt10000.false

pub overflow_add-count-then-rest-ge10 : goal.overflow_add-count-then-rest-ge10
overflow_add-count-then-rest-ge10 c = omega (arith, counted_few c.loop-rest.invariant (search rules))

pub returns-then-rest-ge10 : goal.returns-then-rest-ge10
returns-then-rest-ge10 c =
    let one = counted_step c.loop-rest.invariant c.if-rest-ge10.true in
    record { is = counted_end one (omega arith); few = counted_few one (search rules) }

pub returns-else-rest-ge10 : goal.returns-else-rest-ge10
returns-else-rest-ge10 c = record { is = counted_end c.loop-rest.invariant c.if-rest-ge10.false; few = counted_few c.loop-rest.invariant (search rules) }
