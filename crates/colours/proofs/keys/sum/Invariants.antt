-- `sum` meets its contract: the keys from i on, from the sum by now, give the sum of all.
-- Assumes nothing.
use Rattle.colours.proofs.KeyLaws.{Totalling}
use Rattle.colours.proofs.keys.sum.Given as goal

abbrev pub invariant-loop-key : goal.invariant-loop-key
invariant-loop-key l = Totalling l.keys l.total l.key-index
