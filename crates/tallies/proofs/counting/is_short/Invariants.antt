-- `is_short` meets its contract: the first i heads do not outnumber the tally.
-- Assumes nothing.
use Rattle.tallies.proofs.CountLaws.{Sufficing}
use Rattle.tallies.proofs.counting.is_short.Given as goal

abbrev pub invariant-loop-i : goal.invariant-loop-i
invariant-loop-i l = Sufficing l.heads l.tally l.i
