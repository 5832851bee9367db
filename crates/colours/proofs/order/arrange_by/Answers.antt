-- `arrange_by` meets its contract: the constraints before k are placed.
-- Assumes nothing.
use Rattle.std.proofs.Common.{◌∙◌}
use Rattle.colours.proofs.OrderLaws.{arranging-start, arranging-next}
use Rattle.colours.proofs.order.arrange_by.Goals as goal

pub loop-k-init : goal.loop-k-init
loop-k-init c =
    (arranging-start _ _ _ c.requires.0, c.tally_all.ensures ∙ c.requires.1)

pub loop-k-preserved : goal.loop-k-preserved
loop-k-preserved c = (
  arranging-next _ _ _ _ _ _ c.loop-k.invariant.0 c.loop-k-test.true _
      c.choose_next-i.ensures.1 _ c.swap_rows.auto.cells c.swap_rows.ensures
      _ c.see.ensures.0,
  c.see.ensures.1 ∙ c.loop-k.invariant.1,
)
