-- `absorb` meets its contract: the colours below x are done, the others are as they were.
-- Assumes nothing.
use Rattle.colours.proofs.ColourLaws.{Absorbing}
use Rattle.colours.proofs.colours.absorb.Given as goal

abbrev pub invariant-loop-x : goal.invariant-loop-x
invariant-loop-x l = Absorbing l.initial.colours l.initial.received l.colours l.received l.x
