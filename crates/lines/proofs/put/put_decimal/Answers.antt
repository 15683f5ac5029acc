-- `lines::put::put_decimal` meets its contract. Assumes nothing.
use Rattle.std.proofs.Common.{arith, rules, ◌≡◌, ◌+◌, ◌-◌, ◌≤◌, ◌%◌, ◌∷◌, ◌++◌, ◌∙◌, List, ℕ, length, drop, sym, ap}
use Rattle.std.proofs.lemmas.List.{drop-set}
use Rattle.std.specs.Fmt.{decimal as std_decimal}
use Rattle.rules.specs.Lines.{decimal}
use Rattle.lines.proofs.Digits.{decimal-small, length-small, length_some, decimal-as_std}
use Rattle.lines.proofs.put.put_decimal.Goals as goal

pub overflow_sub-output : goal.overflow_sub-output
overflow_sub-output c = omega (arith, length_some c.args.x)

pub bounds-output-end : goal.bounds-output-end
bounds-output-end c = omega (arith, length_some c.args.x)

pub overflow_sub-result : goal.overflow_sub-result
overflow_sub-result c = omega (arith, length_some c.args.x)

pub returns-then-x-lt10-clause-start : goal.returns-then-x-lt10-clause-start
returns-then-x-lt10-clause-start c = omega (arith, length-small c.args.x c.if-x-lt10.true)

pub returns-then-x-lt10-clause-written : goal.returns-then-x-lt10-clause-written
returns-then-x-lt10-clause-written c =
    let x = c.args.x in
    let end = c.args.end in
    let old = c.args.output.now in
    let some : 1 ≤ end = omega (arith, length_some x) in
    let place : end - 1 + 1 ≡ end = omega arith in
    let last : 48 + x ≡ 48 + x % 10 = omega (arith, c.if-x-lt10.true) in
    drop-set old (end - 1) (48 + x) (omega arith)
    ∙ ap (λ (n : ℕ). (48 + x) ∷ drop n old) place
    ∙ ap (λ (y : ℕ). y ∷ drop end old) last
    ∙ ap (λ (ds : List ℕ). ds ++ drop end old) (sym (decimal-small x c.if-x-lt10.true))

pub write_digits-requires : goal.write_digits-requires
write_digits-requires c =
    let same : length (std_decimal c.args.x) ≡ length (decimal c.args.x) = ap length (decimal-as_std c.args.x (search rules)) in
    (omega arith, c.requires.1)

pub returns : goal.returns
returns c =
    let same = decimal-as_std c.args.x (search rules) in
    let written = c.write_digits.ensures in
    record {
      start = ap (λ (ds : List ℕ). c.write_digits.result + length ds) (sym same) ∙ written.start;
      written = written.written ∙ ap (λ (ds : List ℕ). ds ++ drop c.args.end c.args.output.now) same;
      before = written.before;
    }
