-- `refine_times` meets its contract: the rounds that are left, from the table by now, give the answer for all.
-- Assumes nothing.
use Rattle.colours.proofs.RoundLaws.{rounds-next, rounds-done}
use Rattle.colours.proofs.colours.refine_times.Goals as goal

pub loop-preserved : goal.loop-preserved
loop-preserved c = search rounds-next

pub returns : goal.returns
returns c = rounds-done _ _ _ _ _ c.requires _ _ _ c.loop.invariant c.loop-test.false
