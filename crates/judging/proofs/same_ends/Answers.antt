-- `same_ends` meets its contract: ends in the same cells are equal; others are tidied and compared.
-- Assumes nothing.
use Rattle.judging.proofs.JoinLaws.{ends-alike, ends-side}
use Rattle.judging.proofs.same_ends.Goals as goal

pub returns-then-same_cells-2 : goal.returns-then-same_cells-2
returns-then-same_cells-2 c =
    ends-alike _ _ _ _ (c.same_cells.ensures.same c.if-same_cells.true)
    (c.same_cells-then-same_cells.ensures.same c.if-same_cells-2.true)

pub same_state-requires : goal.same_state-requires
same_state-requires c = (
  ends-side _ _ _ _ c.requires.0 c.tidy.ensures c.tidy.auto.cells,
  ends-side _ _ _ _ c.requires.1 c.tidy-2.ensures c.tidy-2.auto.cells,
)
