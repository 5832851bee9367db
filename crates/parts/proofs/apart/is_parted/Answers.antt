-- `is_parted` meets its contract: the cells behind the first constraints are marked, those of goal variables are not.
-- Assumes nothing.
use Rattle.parts.proofs.PartLaws.{parted}
use Rattle.parts.proofs.apart.is_parted.Goals as goal

pub returns : goal.returns
returns c =
    parted _ _ _ _ _ _ c.mark.ensures c.mark-2.ensures _ c.is_unmarked.ensures
