-- `weigh_all` meets its contract: the constraints from i on, from the weights by now, give the weights for all.
-- Assumes nothing.
use Rattle.colours.proofs.ColourLaws.{lent_below}
use Rattle.fixing.proofs.WeightLaws.{all-next, all_done}
use Rattle.fixing.proofs.weights.weigh_all.Goals as goal

pub weigh-requires : goal.weigh-requires
weigh-requires c =
    lent_below _ _ c.loop-i.i (rw c.loop-i.invariant.size c.requires.1)

pub loop-i-preserved : goal.loop-i-preserved
loop-i-preserved c = search all-next

pub returns : goal.returns
returns c = search all_done
