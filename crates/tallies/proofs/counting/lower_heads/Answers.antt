-- `lower_heads` meets its contract: the cells that it lends are those of the heads that the rule removes.
-- Assumes nothing.
use Rattle.tallies.proofs.counting.lower_heads.Goals as goal

pub returns : goal.returns
returns c = rw c.removed_heads.ensures.same at c.lower.ensures
