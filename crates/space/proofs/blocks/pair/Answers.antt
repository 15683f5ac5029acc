-- `space::blocks::pair` meets its contract. Assumes nothing.
use mathlib.Core.Path.{◌∙◌}
use native.Mathlib.Omega.{arith}
use lib.IntN.{pos}
use mir.Syntax.{w8}
use mir.Facts.{to_z-of_z}
use borrow.Author.Rules.{sfits_of}
use Rattle.space.proofs.Sums.{pairs_one}
use Rattle.space.proofs.blocks.pair.Goals as goal

pub returns : goal.returns
returns c =
    pairs_one (pos 0) c.args.i c.args.a.now c.args.b.now _ _ c.requires.0 c.requires.1
    (to_z-of_z {w = w8} (sfits_of c.abs_diff-arg-1.given)) (to_z-of_z {w = w8} (sfits_of c.abs_diff-arg-2-1.given)) (c.from-gap.ensures ∙ c.abs_diff.ensures) (omega arith)
