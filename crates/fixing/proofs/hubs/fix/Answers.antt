-- `fix` meets its contract: the used cells are paired by now.
-- Assumes nothing.
use Rattle.std.proofs.Common.{arith}
use Rattle.fixing.proofs.HubLaws.{fix-next}
use Rattle.fixing.proofs.hubs.fix.Goals as goal

pub loop-used-preserved : goal.loop-used-preserved
loop-used-preserved c =
    fix-next _ _ _ _ _ _ _ _ _ _ c.loop-used.invariant (omega arith) _ _
    c.in-Some.ensures _ _ c.wide.ensures.0 c.wide-in-loop-used.ensures.0
