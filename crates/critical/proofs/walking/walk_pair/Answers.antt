-- `walk_pair` meets its contract: where no head symbol is common, there is nothing to judge.
-- Assumes nothing.
use Rattle.critical.proofs.TableLaws.{pair-unshared}
use Rattle.critical.proofs.walking.walk_pair.Goals as goal

pub returns : goal.returns
returns c = search pair-unshared
