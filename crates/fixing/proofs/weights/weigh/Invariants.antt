-- `weigh` meets its contract: the terms from i on, from the weights by now, give the weights for all.
-- Assumes nothing.
use Rattle.fixing.proofs.WeightLaws.{Weighing}
use Rattle.fixing.proofs.weights.weigh.Given as goal

abbrev pub invariant-loop-x : goal.invariant-loop-x
invariant-loop-x l = Weighing l.terms l.initial.weights l.weights l.f l.x-index
