-- `show` meets its contract: the goal made again, and both sides run to their ends.
-- Assumes nothing.
use Rattle.critical.proofs.VerdictLaws.{show-shown}
use Rattle.critical.proofs.deciding.show.Goals as goal

pub returns : goal.returns
returns c =
    show-shown _ _ _ _ _ _ _ _ _ c.remake-peak.ensures c.run_sides-ends.ensures c.requires.1.check
    c.requires.1.partners-size _ c.row_of.ensures _ c.wide-heads.ensures.0
