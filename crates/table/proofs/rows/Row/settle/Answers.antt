use mathlib.Core.Path.{sym, ◌∙◌}
use Rattle.table.proofs.Settled.{first_of, first_small, first_room, first_cell, first-leads, first_stays}
use Rattle.table.proofs.rows.Row.settle.Goals as goal

pub cell_by-requires : goal.cell_by-requires
cell_by-requires c = first_small (first_of c.args.self.now c.requires.first) (c.from-v.ensures ∙ c.id_of.ensures) c.distance_of-duv.ensures

pub bounds-cells-v : goal.bounds-cells-v
bounds-cells-v c = first_room (first_of c.args.self.now c.requires.first) (c.from-v.ensures ∙ c.id_of.ensures) c.distance_of-duv.ensures _ c.requires.room

pub invariant_of-self : goal.invariant_of-self
invariant_of-self c =
    let t = sym c.is_direct.ensures ∙ c.if-is_direct.true in
    record {
      u_in = c.args.self.now.u_in;
      sofar = first-leads (first_of c.args.self.now c.requires.first) (c.from-v.ensures ∙ c.id_of.ensures) c.distance_of-duv.ensures t c.spread.ensures;
    }

pub invariant_of-self-else-is_direct : goal.invariant_of-self-else-is_direct
invariant_of-self-else-is_direct c =
    let t = sym c.is_direct.ensures ∙ c.if-is_direct.false in
    record {
      u_in = c.args.self.now.u_in;
      sofar = first_stays (first_of c.args.self.now c.requires.first) (c.from-v.ensures ∙ c.id_of.ensures) c.distance_of-duv.ensures t;
    }

pub returns-then-is_direct-clause-cells_after : goal.returns-then-is_direct-clause-cells_after
returns-then-is_direct-clause-cells_after c =
    first_cell (first_of c.args.self.now c.requires.first) (c.from-v.ensures ∙ c.id_of.ensures) c.distance_of-duv.ensures _ c.cell_by.ensures

pub returns-else-is_direct-clause-cells_after : goal.returns-else-is_direct-clause-cells_after
returns-else-is_direct-clause-cells_after c =
    first_cell (first_of c.args.self.now c.requires.first) (c.from-v.ensures ∙ c.id_of.ensures) c.distance_of-duv.ensures _ c.cell_by.ensures
