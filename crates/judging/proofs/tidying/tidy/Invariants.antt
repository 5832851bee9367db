-- `tidy` meets its contract: the constraints before i are done.
-- Assumes nothing.
use Rattle.judging.proofs.TidyLaws.{Tidying}
use Rattle.judging.proofs.tidying.tidy.Given as goal

abbrev pub invariant-loop-i : goal.invariant-loop-i
invariant-loop-i l = Tidying l.initial.cells l.cells l.i
