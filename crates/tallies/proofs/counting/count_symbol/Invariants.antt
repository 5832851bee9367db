-- `count_symbol` meets its contract: k of the first i constraints have the symbol.
-- Assumes nothing.
use Rattle.tallies.proofs.CountLaws.{Counting}
use Rattle.tallies.proofs.counting.count_symbol.Given as goal

abbrev pub invariant-loop-i : goal.invariant-loop-i
invariant-loop-i l = Counting l.symbol l.cells l.i l.k
