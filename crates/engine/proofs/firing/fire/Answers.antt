-- `fire` meets its contract: remove, and the rest of the firing.
-- Assumes nothing.
use Rattle.engine.proofs.RuleLaws.{fire-completes, fire-done}
use Rattle.engine.proofs.firing.fire.Goals as goal

pub returns : goal.returns
returns c =
    fire-done _ _ _ _ _ _ c.requires _ _ c.wide-heads.ensures.0 c.wide-first.ensures.0 _ _
    c.remove-left.auto.cells c.remove-left.ensures _ _ _ _ _ c.complete.ensures

pub complete-requires : goal.complete-requires
complete-requires c =
    fire-completes _ _ _ _ _ _ c.requires _ _ c.wide-heads.ensures.0 c.wide-first.ensures.0 _ _
    c.remove-left.auto.cells c.remove-left.ensures
