-- `normalise_from` meets its contract: firings before a derivation only count.
-- Assumes nothing.
use Rattle.engine.proofs.RunLaws.{ended-later}
use Rattle.engine.proofs.derivation.normalise_from.Goals as goal

pub returns : goal.returns
returns c = search ended-later
