-- `instantiate` meets its contract: one more cell is written.
-- Assumes nothing.
use Rattle.std.proofs.Common.{arith}
use Rattle.tables.proofs.MapLaws.{mapped_next}
use Rattle.engine.proofs.firing.instantiate.Goals as goal

pub loop-i-preserved : goal.loop-i-preserved
loop-i-preserved c = mapped_next _ _ _ _ _ c.loop-i.invariant _ (omega arith) c.instance.ensures
