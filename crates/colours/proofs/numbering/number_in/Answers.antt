-- `number_in` meets its contract: what the goal variables became, then the constraints.
-- Assumes nothing.
use Rattle.colours.proofs.NumberLaws.{state-numbered}
use Rattle.colours.proofs.numbering.number_in.Goals as goal

pub returns : goal.returns
returns c =
    state-numbered _ _ _ _ _ _ _ _ _ c.number_cells-limit.ensures c.number_cells-next.ensures
