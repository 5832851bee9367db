-- `settle` meets its contract: all is as it was before the first position that will do.
-- Assumes nothing.
use Rattle.comparison.proofs.SettleLaws.{Trying}
use Rattle.comparison.proofs.settling.settle.Given as goal

abbrev pub invariant-loop-j : goal.invariant-loop-j
invariant-loop-j l = Trying l.initial.used l.initial.forth l.initial.back l.used l.forth l.back
