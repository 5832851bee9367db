-- `settle_all` meets its contract: the constraints from i on answer for all.
-- Assumes nothing.
use Rattle.comparison.proofs.SettleLaws.{SettlingAll}
use Rattle.comparison.proofs.settling.settle_all.Given as goal

abbrev pub invariant-loop-i : goal.invariant-loop-i
invariant-loop-i l =
    SettlingAll l.a l.n l.b l.initial.used l.initial.forth l.initial.back l.used l.forth l.back l.i
