-- `swap_rows` meets its contract: the columns before c are exchanged.
-- Assumes nothing.
use Rattle.colours.proofs.OrderLaws.{swapping-next}
use Rattle.colours.proofs.order.swap_rows.Goals as goal

pub loop-c-preserved : goal.loop-c-preserved
loop-c-preserved c =
    rw c.swap.ensures.after
    (swapping-next _ _ _ _ _ c.requires.0 c.requires.1 c.loop-c.invariant c.loop-c-test.true)
