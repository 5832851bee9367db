-- `lay` meets its contract: the heads under an instance that binds nothing.
-- Assumes nothing.
use Rattle.overlaps.proofs.LayLaws.{laid_one}
use Rattle.overlaps.proofs.laying.lay.Goals as goal

pub returns : goal.returns
returns c = laid_one _ _ _ _ c.requires.0 c.heads.ensures.same c.instantiate.ensures
