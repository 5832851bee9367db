-- `fix_hubs` meets its contract: tables of zeros are ready.
-- Assumes nothing.
use Rattle.colours.proofs.ClassLaws.{make-ready}
use Rattle.fixing.proofs.HubLaws.{zeros-colourable}
use Rattle.fixing.proofs.hubs.fix_hubs.Goals as goal

pub fix_by-requires : goal.fix_by-requires
fix_by-requires c = (
  zeros-colourable _ _ _ _ c.requires.0,
  zeros-colourable _ _ _ _ c.requires.1,
  (make-ready _ _ _ _ c.requires.0).empty,
  (make-ready _ _ _ _ c.requires.0).empty,
  c.requires.2,
  c.requires.3,
)
