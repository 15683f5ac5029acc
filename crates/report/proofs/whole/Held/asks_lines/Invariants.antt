-- The lines of the asks so far are on the page. Assumes nothing.
use Prim.Native.Nat.{◌≤◌}
use Rattle.std.specs.Prelude.{Ok}
use Rattle.rules.specs.Program.{asks_lines}
use Rattle.report.specs.Pages.{Paged}
use Rattle.report.proofs.whole.Held.asks_lines.Given as goal

abbrev pub invariant-loop-number : goal.invariant-loop-number
invariant-loop-number l =
    (l.number ≤ l.self.asks) × Paged l.at (asks_lines l.self.sheet.now l.self.table.now l.number) l.initial.page l.page (Ok l.end)
