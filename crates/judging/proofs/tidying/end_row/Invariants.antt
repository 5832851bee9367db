-- `end_row` meets its contract: the columns before j are done.
-- Assumes nothing.
use Rattle.judging.proofs.TidyLaws.{Ending}
use Rattle.judging.proofs.tidying.end_row.Given as goal

abbrev pub invariant-loop-j : goal.invariant-loop-j
invariant-loop-j l = Ending l.i l.initial.cells l.cells l.j
