-- `colour` meets its contract: the start, what stands out, and rounds.
-- Assumes nothing.
use Rattle.colours.proofs.KeyLaws.{colour-done}
use Rattle.colours.proofs.keys.colour.Goals as goal

pub returns : goal.returns
returns c = (
  colour-done _ _ _ _ _ _ c.start.ensures c.light.ensures.0
      c.refine_times.ensures.0,
  c.refine_times.ensures.1,
)
