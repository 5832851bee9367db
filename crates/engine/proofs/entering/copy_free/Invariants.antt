-- `copy_free` meets its contract: the constraints in front and those from p on that stay are all that stay.
-- Assumes nothing.
use Rattle.engine.proofs.EnterLaws.{Freeing}
use Rattle.engine.proofs.entering.copy_free.Given as goal

abbrev pub invariant-loop-p : goal.invariant-loop-p
invariant-loop-p l = Freeing l.goal l.positions l.cells l.p l.k
