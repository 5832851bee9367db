-- `sum` meets its contract: the keys from i on, from the sum by now, give the sum of all.
-- Assumes nothing.
use Rattle.colours.proofs.KeyLaws.{sum-next, sum_done}
use Rattle.colours.proofs.keys.sum.Goals as goal

pub returns : goal.returns
returns c = sum_done _ _ _ c.loop-key.invariant c.loop-key-test.false

pub loop-key-preserved : goal.loop-key-preserved
loop-key-preserved c = search sum-next
