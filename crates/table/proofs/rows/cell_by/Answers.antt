-- `table::rows::cell_by` meets its contract. Assumes nothing.
use Prim.Native.Nat.{min}
use mathlib.Core.Path.{◌≡◌, sym, ap₂, ◌∙◌}
use native.Mathlib.Omega.{arith}
use borrow.Author.Tests.{leb-false}
use Rattle.rules.specs.Labels.{label_of}
use Rattle.table.specs.Rows.{cell_by}
use Rattle.table.proofs.rows.cell_by.Goals as goal

pub returns : goal.returns
unfolding cell_by
returns c =
    let a = c.args in
    let f = sym c.is_direct.ensures ∙ c.if-is_direct.false in
    let l = leb-false a.duv a.least f in
    let p : min a.duv 4161600 ≡ a.duv = omega arith in
    let q : min a.least 4161600 ≡ a.least = omega arith in
    c.label.ensures ∙ ap₂ label_of p q ∙ simp f
