-- `cancels` meets its contract: the first constraints of both states stand apart, and they are equal.
-- Assumes nothing.
use Rattle.comparison.proofs.PartingLaws.{first-room, cancelled-found}
use Rattle.comparison.proofs.parting.cancels.Goals as goal

pub returns : goal.returns
returns c =
    cancelled-found _ _ _ _ _ (first-room _ _ _ _ _ c.requires.0 c.requires.4) (first-room _ _ _ _ _ c.requires.1 c.requires.4) _ _
    c.is_parted.ensures c.if-not-is_parted.false c.is_parted-else-not-is_parted.ensures
    c.if-not-is_parted-2.false _ c.settles.ensures
