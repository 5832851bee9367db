-- `try_part` meets its contract: the second state has the same constraints after each change.
-- Assumes nothing.
use Rattle.std.proofs.Common.{refl, ◌∙◌, arith}
use Rattle.parts.proofs.LineLaws.{reordered-same, reordered-swap}
use Rattle.parts.proofs.lining.try_part.Goals as goal

pub loop-i-init : goal.loop-i-init
loop-i-init c = (omega arith, refl, reordered-same _)

pub loop-i-preserved : goal.loop-i-preserved
loop-i-preserved c =
    let inv = c.loop-i.invariant in
    let swap = c.swap_rows in (
      omega arith,
      swap.auto.cells ∙ inv.1,
      reordered-swap _ _ _ _ _ _ c.requires.2 inv.1 inv.2 (omega arith) (omega arith)
          swap.auto.cells swap.ensures,
    )
