-- `fill_keys` meets its contract: the colours, then the keys by them.
-- Assumes nothing.
use Rattle.colours.proofs.KeyLaws.{plain-same}
use Rattle.colours.proofs.classes.fill_keys.Goals as goal

pub returns : goal.returns
returns c =
    rw c.if-depth.false (plain-same _ _ _ _ _ c.plain_keys.ensures c.colour.ensures.0)
