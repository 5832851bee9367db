-- `tally` meets its contract: each term has its count.
-- Assumes nothing.
use Rattle.std.proofs.Common.{arith}
use Rattle.colours.proofs.ColourLaws.{lent_below}
use Rattle.colours.proofs.order.tally.Goals as goal

pub bounds-counts-p : goal.bounds-counts-p
bounds-counts-p c = omega (arith, (lent_below _ _ c.args.i c.requires.0).below c.loop-x.x-index)

pub bounds-counts-p-in-loop-x : goal.bounds-counts-p-in-loop-x
bounds-counts-p-in-loop-x c = omega (arith, (lent_below _ _ c.args.i c.requires.0).below c.loop-x.x-index)
