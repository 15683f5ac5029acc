-- `lines::placed` meets its contract. Assumes nothing.
use Rattle.std.proofs.Common.{arith, rules, ◌≡◌, ◌+◌, ◌<◌, ◌≤◌, length}
use Rattle.std.proofs.lemmas.Grind.{common_steps}
use Rattle.lines.proofs.Ends.{put_of, placed_all, placed_none}
use Rattle.lines.proofs.placed.Goals as goal

pub returns-in_err-left : goal.returns-in_err-left
returns-in_err-left g c =
    let past : length c.args.output.now < c.args.at = grind (arith, common_steps) in
    let both = placed_none c.args.at _ c.args.output.now c.from_residual.ensures.0 (omega arith) in record { answer = both.0; output = both.1 }

pub returns-in_err-put : goal.returns-in_err-put
returns-in_err-put g c =
    let left : c.in_ok-left.left + c.args.at ≡ length c.args.output.now = grind (arith, common_steps) in
    let both = placed_none c.args.at _ c.args.output.now c.from_residual-in_err-put.ensures.0 (omega (arith, c.in_err-put.ensures.err)) in record { answer = both.0; output = both.1 }

pub returns : goal.returns
returns g c =
    let took = c.in_ok-put-2.ensures.ok in
    let left : c.in_ok-left.left + c.args.at ≡ length c.args.output.now = grind (arith, common_steps) in
    let fits : c.args.at + length (g.L.Line.bytes c.args.line.now) ≤ length c.args.output.now = omega (arith, c.in_ok-put.ensures.ok) in
    let both = placed_all c.args.at _ c.args.output.now fits took.ends (put_of c.args.at _ c.args.output.now took.ends took.written took.kept) in
    record { answer = both.0; output = search rules }
