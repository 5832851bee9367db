-- `weigh_all` meets its contract: the constraints from i on, from the weights by now, give the weights for all.
-- Assumes nothing.
use Rattle.fixing.proofs.WeightLaws.{AllWeighing}
use Rattle.fixing.proofs.weights.weigh_all.Given as goal

abbrev pub invariant-loop-i : goal.invariant-loop-i
invariant-loop-i l = AllWeighing l.cells l.n l.initial.weights l.weights l.i
