-- `copy_goal` meets its contract: one more of the first cells is the goal's.
-- Assumes nothing.
use Rattle.std.proofs.Common.{arith}
use Rattle.engine.proofs.EnterLaws.{copying-next, copying-end}
use Rattle.engine.proofs.entering.copy_goal.Goals as goal

pub loop-i-preserved : goal.loop-i-preserved
loop-i-preserved c = copying-next _ _ _ (omega arith) (omega arith) c.loop-i.invariant

pub returns : goal.returns
returns c = copying-end _ _ _ (omega arith) c.loop-i.invariant
