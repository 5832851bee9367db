-- `triple` meets its contract. Assumes nothing.
use Rattle.std.proofs.Common.{refl}
use Rattle.fixing.specs.Weights.{plus, tripled}
use Rattle.fixing.proofs.weights.triple.Goals as goal

pub returns : goal.returns
unfolding plus tripled
returns c = refl
