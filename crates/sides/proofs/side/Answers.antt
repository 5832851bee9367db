-- `side` meets its contract: what follows its own firing.
-- Assumes nothing.
use Rattle.sides.proofs.SideLaws.{side-follows}
use Rattle.sides.proofs.side.Goals as goal

pub follow-requires : goal.follow-requires
follow-requires c =
    side-follows _ _ _ _ _ _ _ _ c.requires _ _ _ _ _ _ c.begin-step.auto.bound
    c.begin-step.auto.cells c.begin-step.ensures
