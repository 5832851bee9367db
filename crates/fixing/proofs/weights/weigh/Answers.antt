-- `weigh` meets its contract: the terms from i on, from the weights by now, give the weights for all.
-- Assumes nothing.
use Rattle.fixing.specs.Weights.{plus}
use Rattle.fixing.proofs.WeightLaws.{weigh-end, weigh-next, weigh-done}
use Rattle.fixing.proofs.weights.weigh.Goals as goal

pub loop-x-preserved : goal.loop-x-preserved
unfolding plus
loop-x-preserved c = search weigh-next

pub returns-then-x-eq0 : goal.returns-then-x-eq0
returns-then-x-eq0 c = search weigh-end

pub returns : goal.returns
returns c = search weigh-done
