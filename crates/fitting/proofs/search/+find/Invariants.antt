-- `find` meets its contract: the positions from p on give the answer for all of them. The heads not yet placed fall at each
-- call.
-- Assumes nothing.
use Prim.Native.Nat.{◌-◌}
use Rattle.fitting.proofs.SearchLaws.{Hunting}
use Rattle.fitting.proofs.search.+find.Given as goal

abbrev pub decreases-find : goal.decreases-find
decreases-find l = l.left

abbrev pub invariant-loop-p : goal.invariant-loop-p
invariant-loop-p l =
    Hunting l.heads l.n l.left l.cells l.m l.initial.chosen l.initial.bindings l.chosen l.bindings l.p

abbrev pub decreases-loop-p : goal.decreases-loop-p
decreases-loop-p l = l.m - l.p
