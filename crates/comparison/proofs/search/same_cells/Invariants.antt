-- `same_cells` meets its contract: the cells before i are the same.
-- Assumes nothing.
use Rattle.comparison.proofs.DecideLaws.{Matching}
use Rattle.comparison.proofs.search.same_cells.Given as goal

abbrev pub invariant-loop-i : goal.invariant-loop-i
invariant-loop-i l = Matching l.a l.b l.i
