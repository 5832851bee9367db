-- `plain_keys` meets its contract: the keys below i are made.
-- Assumes nothing.
use Rattle.colours.proofs.ColourLaws.{lent_below}
use Rattle.colours.proofs.KeyLaws.{keys-next, keys-done, key-plain}
use Rattle.colours.proofs.keys.plain_keys.Goals as goal

pub sign-s-requires : goal.sign-s-requires
sign-s-requires c = search lent_below

pub loop-i-preserved : goal.loop-i-preserved
loop-i-preserved c = search (keys-next, key-plain)

pub returns : goal.returns
returns c = search keys-done
