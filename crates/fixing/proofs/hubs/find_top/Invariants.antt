-- `find_top` meets its contract: the heaviest of the variables before i, if it is single.
-- Assumes nothing.
use Rattle.fixing.proofs.HubLaws.{Topping}
use Rattle.fixing.proofs.hubs.find_top.Given as goal

abbrev pub invariant-loop-i : goal.invariant-loop-i
invariant-loop-i l = Topping l.weights l.top l.best l.i
