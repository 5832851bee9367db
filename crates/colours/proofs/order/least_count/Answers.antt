-- `least_count` meets its contract: each term has its mark and its count.
-- Assumes nothing.
use Rattle.colours.proofs.ColourLaws.{lent_below}
use Rattle.colours.proofs.order.least_count.Goals as goal

pub smaller-least-requires : goal.smaller-least-requires
smaller-least-requires c = ((lent_below _ _ c.args.i c.requires.0).below c.loop-x.x-index, c.requires.2)
