-- `carried` meets its contract.
-- Assumes nothing.
use Rattle.std.proofs.Common.{le-ltb, lt-ltb}
use Rattle.colours.specs.Colours.{carry}
use Rattle.colours.proofs.colours.carried.Goals as goal

pub returns-then-t-lt2147483648 : goal.returns-then-t-lt2147483648
unfolding carry
returns-then-t-lt2147483648 c = rw (lt-ltb _ _ c.if-t-lt2147483648.true)

pub returns-else-t-lt2147483648 : goal.returns-else-t-lt2147483648
unfolding carry
returns-else-t-lt2147483648 c = rw (le-ltb _ _ c.if-t-lt2147483648.false)
