-- `number_cells` meets its contract: the cells below i have their numbers.
-- Assumes nothing.
use Rattle.colours.proofs.NumberLaws.{cells-start, cells-next}
use Rattle.colours.proofs.numbering.number_cells.Goals as goal

pub loop-i-init : goal.loop-i-init
loop-i-init c = cells-start _ _ _ _ c.requires.0

pub loop-i-preserved : goal.loop-i-preserved
loop-i-preserved c = search cells-next
