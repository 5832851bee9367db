-- `checking::listed_cells` meets its contract: the cells of a live end, and none of a failed one. Assumes nothing.
use Rattle.std.proofs.Common.{rules}
use Rattle.checking.specs.Checking.{listed_cells}
use Rattle.checking.proofs.listed_cells.Goals as goal

pub returns : goal.returns
unfolding listed_cells
returns c = search rules
