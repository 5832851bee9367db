-- `start_bound` meets its contract: one more goal variable is itself.
-- Assumes nothing.
use Rattle.std.proofs.Common.{arith}
use Rattle.engine.proofs.EnterLaws.{starting-next}
use Rattle.engine.proofs.entering.start_bound.Goals as goal

pub loop-i-preserved : goal.loop-i-preserved
loop-i-preserved c = starting-next _ _ (omega arith) c.loop-i.invariant
