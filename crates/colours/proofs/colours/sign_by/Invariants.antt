-- `sign_by` meets its contract: the terms from i on, from the number by now, give the answer for all.
-- Assumes nothing.
use Rattle.colours.proofs.ColourLaws.{Signing}
use Rattle.colours.proofs.colours.sign_by.Given as goal

abbrev pub invariant-loop-x : goal.invariant-loop-x
invariant-loop-x g l = Signing (goal.F-post g l.colour) l.start l.terms l.s l.x-index
