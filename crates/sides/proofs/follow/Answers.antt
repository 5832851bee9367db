-- `follow` meets its contract: the strategy goes on from the side's own firing.
-- Assumes nothing.
use Rattle.std.proofs.Common.{refl, ap, arith}
use Rattle.engine.specs.Stated.{has_fired, lives}
use Rattle.sides.proofs.TallyLaws.{side-tallying, side-tallied}
use Rattle.sides.proofs.SideLaws.{side-rests, side-fails, side-ends}
use Rattle.sides.proofs.follow.Goals as goal

pub returns-in-Rests : goal.returns-in-Rests
returns-in-Rests c = side-rests _ _ _ _ _ _ _ _ _ _ _ c.requires (ap has_fired c.in-Rests.is)

pub returns-in-Failed : goal.returns-in-Failed
returns-in-Failed c =
    side-fails _ _ _ _ _ _ _ _ _ _ _ c.requires (ap has_fired c.in-Failed.is) (ap lives c.in-Failed.is)

pub tally_side-requires : goal.tally_side-requires
tally_side-requires c =
    side-tallying _ _ _ _ _ _ _ _ _ _ _ c.requires (ap has_fired c.in-Lives.is) (ap lives c.in-Lives.is)
    _ c.row_of.ensures _ refl refl

pub normalise_from-requires : goal.normalise_from-requires
normalise_from-requires c =
    let asked = rw c.in-Lives.is at c.requires in (
      asked.starts refl refl,
      omega arith,
      side-tallied _ _ _ _ _ _ _ _ _ _ _ asked refl refl _ c.row_of.ensures _ c.tally_side.auto.tally
          c.tally_side.ensures,
    )

pub returns-in-Lives : goal.returns-in-Lives
returns-in-Lives c =
    rw c.in-Lives.is
    (side-ends _ _ _ _ _ _ _ _ _ _ _ (rw c.in-Lives.is at c.requires) refl refl _ _ _ _ _ _ c.normalise_from.ensures)
