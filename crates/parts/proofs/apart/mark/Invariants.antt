-- `mark` meets its contract: the cells before i are marked.
-- Assumes nothing.
use Rattle.parts.proofs.PartLaws.{Marking}
use Rattle.parts.proofs.apart.mark.Given as goal

abbrev pub invariant-loop-i : goal.invariant-loop-i
invariant-loop-i l = Marking l.cells l.from l.value l.initial.marks l.marks l.i
