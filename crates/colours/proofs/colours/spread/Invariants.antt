-- `spread` meets its contract: the terms from i on, from the number and the table by now, give the answer for all.
-- Assumes nothing.
use Rattle.colours.proofs.ColourLaws.{Spreading}
use Rattle.colours.proofs.colours.spread.Given as goal

abbrev pub invariant-loop-x : goal.invariant-loop-x
invariant-loop-x l = Spreading l.start l.terms l.initial.received l.received l.s l.x-index
