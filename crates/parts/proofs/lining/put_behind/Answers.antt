-- `put_behind` meets its contract: the constraints are the same after each change.
-- Assumes nothing.
use Rattle.std.proofs.Common.{refl, ◌∙◌, arith}
use Rattle.parts.proofs.LineLaws.{reordered-same, reordered-swap}
use Rattle.parts.proofs.lining.put_behind.Goals as goal

pub loop-i-init : goal.loop-i-init
loop-i-init c = (refl, reordered-same _)

pub loop-i-preserved : goal.loop-i-preserved
loop-i-preserved c =
    let inv = c.loop-i.invariant in
    let swap = c.swap_rows in (
      swap.auto.cells ∙ inv.0,
      reordered-swap _ _ _ _ _ _ c.requires.0 inv.0 inv.1 (omega arith) (omega arith) swap.auto.cells swap.ensures,
    )
