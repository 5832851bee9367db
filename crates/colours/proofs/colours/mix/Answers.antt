-- `mix` meets its contract: the square of 32 bits fits 64.
-- Assumes nothing.
use Rattle.std.proofs.Common.{rules}
use Rattle.colours.specs.Colours.{lowest, mixed}
use Rattle.colours.proofs.colours.mix.Goals as goal

pub returns : goal.returns
unfolding mixed lowest
returns c = search rules
