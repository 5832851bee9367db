-- `light` meets its contract: what the terms received, mixed in, is one round.
-- Assumes nothing.
use Rattle.colours.proofs.RoundLaws.{round-one}
use Rattle.colours.proofs.colours.light.Goals as goal

pub returns : goal.returns
returns c = (
  round-one _ _ _ _ _ _ c.requires.1 c.requires.2 c.give.ensures c.absorb.auto.colours
      c.absorb.ensures,
  c.absorb.ensures.none,
)
