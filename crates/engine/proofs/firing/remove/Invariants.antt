-- `remove` meets its contract: the constraints below the position that was removed last, and those from it on that stay.
-- Assumes nothing.
use Rattle.engine.proofs.GapLaws.{Removing}
use Rattle.engine.proofs.firing.remove.Given as goal

abbrev pub invariant-loop-p : goal.invariant-loop-p
invariant-loop-p l = Removing l.m l.positions l.initial.cells l.cells l.k l.below

abbrev pub decreases-loop-p : goal.decreases-loop-p
decreases-loop-p l = l.below
