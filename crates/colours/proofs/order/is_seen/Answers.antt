-- `is_seen` meets its contract: each term has its mark.
-- Assumes nothing.
use Rattle.std.proofs.Common.{arith}
use Rattle.colours.proofs.ColourLaws.{lent_below}
use Rattle.colours.proofs.order.is_seen.Goals as goal

pub bounds-seen-wide : goal.bounds-seen-wide
bounds-seen-wide c = omega (arith, (lent_below _ _ c.args.i c.requires.0).below c.loop-x.x-index)
