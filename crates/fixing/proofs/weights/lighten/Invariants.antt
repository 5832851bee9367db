-- `lighten` meets its contract: the cells from i on are still to be set to zero.
-- Assumes nothing.
use Rattle.fixing.proofs.WeightLaws.{Lightening}
use Rattle.fixing.proofs.weights.lighten.Given as goal

abbrev pub invariant-loop-x : goal.invariant-loop-x
invariant-loop-x l = Lightening l.chosen l.initial.weights l.weights l.x-index
