-- `replace_all` meets its contract: one more cell is replaced.
-- Assumes nothing.
use Rattle.std.proofs.Common.{arith, ◌∙◌, ap}
use Rattle.engine.specs.Cells.{swap}
use Rattle.tables.proofs.MapLaws.{mapped-read, mapped_next}
use Rattle.engine.proofs.solving.replace_all.Goals as goal

pub loop-cell-preserved : goal.loop-cell-preserved
loop-cell-preserved c =
    let w = c.loop-cell.invariant in
    mapped_next _ _ _ _ _ w _ (omega arith) (c.swapped.ensures ∙ ap (swap _ _) (mapped-read _ _ _ _ _ w (omega arith)))
