-- `same_step` meets its contract: both states have failed, or are compared cell by cell.
-- Assumes nothing.
use Rattle.judging.proofs.StepLaws.{step-failed, step_same}
use Rattle.judging.proofs.same_step.Goals as goal

pub returns-in-Failed-Failed : goal.returns-in-Failed-Failed
returns-in-Failed-Failed c = step-failed c.in-Failed-Failed.is-0 c.in-Failed-Failed.is-1

pub returns-then-same_cells : goal.returns-then-same_cells
returns-then-same_cells c =
    step_same c.in-Lives-Lives.is-0 c.in-Lives-Lives.is-1 c.if-other-own.false
    (c.same_cells.ensures.same c.if-same_cells.true) _ c.same_cells-then-same_cells.ensures
