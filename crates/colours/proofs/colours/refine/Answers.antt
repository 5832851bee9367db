-- `refine` meets its contract: what all terms received, mixed in, is one round.
-- Assumes nothing.
use Rattle.colours.proofs.RoundLaws.{round-one}
use Rattle.colours.proofs.colours.refine.Goals as goal

pub returns : goal.returns
returns c = (
  round-one _ _ _ _ _ _ c.requires.same_size c.requires.empty c.give_all.ensures
      c.absorb.auto.colours c.absorb.ensures,
  c.absorb.ensures.none,
)
