-- `free_weights` meets its contract: all are weighed, and those of paired cells set to zero.
-- Assumes nothing.
use Rattle.fixing.proofs.WeightLaws.{free-done}
use Rattle.fixing.proofs.weights.free_weights.Goals as goal

pub returns : goal.returns
returns c =
    free-done _ _ _ _ _ c.requires.3 c.weigh_all.ensures c.lighten.ensures
