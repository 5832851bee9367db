-- `narrow` meets its contract: the states by now answer for those at the start.
-- Assumes nothing.
use Rattle.comparison.proofs.NarrowLaws.{Narrowing}
use Rattle.comparison.proofs.narrowing.narrow.Given as goal

abbrev pub invariant-loop-depth : goal.invariant-loop-depth
invariant-loop-depth l = Narrowing l.bound_a l.initial.a l.bound_b l.initial.b l.a l.b l.size l.n
