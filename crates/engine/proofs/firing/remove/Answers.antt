-- `remove` meets its contract: one constraint less.
-- Assumes nothing.
use Rattle.engine.proofs.GapLaws.{removing-start, removing-end, removing-next}
use Rattle.engine.proofs.firing.remove.Goals as goal

pub loop-p-init : goal.loop-p-init
loop-p-init c = removing-start _ _ _ c.requires

pub loop-p-preserved : goal.loop-p-preserved
loop-p-preserved c =
    removing-next _ _ _ c.requires _ _ _ c.loop-p.invariant _ _ c.loop-p.auto.cells c.in-Some.ensures c.close_gap.ensures

pub returns : goal.returns
returns c = removing-end _ _ _ c.requires _ _ _ c.loop-p.invariant c.in_default.ensures
