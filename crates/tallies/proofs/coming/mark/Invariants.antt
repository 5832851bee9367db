-- `mark` meets its contract: the first i constraints are marked, and the tally is raised by them.
-- Assumes nothing.
use Rattle.tallies.proofs.CountLaws.{Raising}
use Rattle.tallies.proofs.ComeLaws.{Marking}
use Rattle.tallies.proofs.coming.mark.Given as goal

abbrev pub invariant-loop-i : goal.invariant-loop-i
invariant-loop-i l =
    Marking l.initial.last l.body l.whole l.last l.i × Raising l.body l.initial.tally l.tally l.i
