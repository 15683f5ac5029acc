use mathlib.Core.Path.{◌∙◌}
use Rattle.table.proofs.Settled.{first_of}
use Rattle.table.proofs.Turns.{written_more, waiting-less, row_end}
use Rattle.table.proofs.rows.Row.settle_all.Goals as goal

pub loop-key-smaller : goal.loop-key-smaller
loop-key-smaller c =
    let s = c.loop-key.self in
    waiting-less (first_of s (c.loop-key.invariant.next, c.loop-key-test.true)) c.settle.ensures.left_after

pub loop-key-preserved : goal.loop-key-preserved
loop-key-preserved c =
    let s = c.loop-key.self in
    let i = c.loop-key.invariant in
    let e = c.settle.ensures in
    record {
      same_distances = e.same_row.0 ∙ i.same_distances;
      same_u = e.same_row.1 ∙ i.same_u;
      written =
          rw
          (e.same_row.0, e.same_row.1)
          (written_more (first_of s (i.next, c.loop-key-test.true)) e.left_after i.written e.cells_after);
      next = c.first_key-key-in-loop-key.ensures;
    }

pub returns : goal.returns
returns c =
    let s = c.loop-key.self in
    let i = c.loop-key.invariant in
    rw (i.same_distances, i.same_u) at (row_end s.distances.now.both_ways s.u_in s.sofar i.next c.loop-key-test.false i.written)
