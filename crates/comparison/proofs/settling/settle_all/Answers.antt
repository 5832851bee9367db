-- `settle_all` meets its contract: the constraints from i on answer for all.
-- Assumes nothing.
use Rattle.comparison.proofs.SettleLaws.{all_done, all-asks, all-next}
use Rattle.comparison.proofs.settling.settle_all.Goals as goal

pub settle-requires : goal.settle-requires
settle-requires c =
    all-asks _ _ _ _ _ _ c.requires.0 c.requires.1 _ _ _ _ c.loop-i.invariant c.loop-i-test.true

pub loop-i-preserved : goal.loop-i-preserved
loop-i-preserved c =
    all-next _ _ _ _ _ _ c.requires.0 c.requires.1 _ _ _ _ c.loop-i.invariant c.loop-i-test.true _ _ _ _ c.settle.ensures
    c.if-not-settle.false
    c.settle.auto.used c.settle.auto.forth c.settle.auto.back

pub returns : goal.returns
returns c =
    all_done _ _ _ _ _ _ c.requires.0 c.requires.1 _ _ _ _ c.loop-i.invariant c.loop-i-test.false
