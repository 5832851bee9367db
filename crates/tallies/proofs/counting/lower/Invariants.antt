-- `lower` meets its contract: the tally is lowered by the first i constraints.
-- Assumes nothing.
use Rattle.tallies.proofs.CountLaws.{Lowering}
use Rattle.tallies.proofs.counting.lower.Given as goal

abbrev pub invariant-loop-i : goal.invariant-loop-i
invariant-loop-i l = Lowering l.cells l.initial.tally l.tally l.i
