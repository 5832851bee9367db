-- `raise` meets its contract: the tally is raised by the first i constraints.
-- Assumes nothing.
use Rattle.tallies.proofs.CountLaws.{Raising}
use Rattle.tallies.proofs.counting.raise.Given as goal

abbrev pub invariant-loop-i : goal.invariant-loop-i
invariant-loop-i l = Raising l.cells l.initial.tally l.tally l.i
