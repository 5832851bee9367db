-- `solve` meets its contract: the equations from number i on, in the state so far, give the answer for all of them.
-- Assumes nothing.
use Rattle.engine.proofs.SolveLaws.{Solving}
use Rattle.engine.proofs.solving.solve.Given as goal

abbrev pub invariant-loop-i : goal.invariant-loop-i
invariant-loop-i l =
    Solving l.initial.equations l.initial.bound l.initial.cells l.n l.equations l.bound l.cells l.i
