-- `begin` meets its contract: each variable is itself, and the rule fires.
-- Assumes nothing.
use Rattle.sides.proofs.SideLaws.{side-stated, side-begins}
use Rattle.sides.proofs.begin.Goals as goal

pub fire_from-requires : goal.fire_from-requires
fire_from-requires c =
    side-stated _ _ _ _ _ _ _ _ c.requires.side _ c.row_of.ensures

pub returns : goal.returns
returns c =
    side-begins _ _ _ _ _ _ _ _ c.requires.side _ c.row_of.ensures _ c.start_bound.ensures _ _ _ _ _ c.fire_from.ensures
