-- `digest_by` meets its contract: the constraints from i on, from the sum by now, give the answer for all.
-- Assumes nothing.
use Rattle.colours.proofs.RoundLaws.{Summing}
use Rattle.colours.proofs.colours.digest_by.Given as goal

abbrev pub invariant-loop-i : goal.invariant-loop-i
invariant-loop-i g l = Summing (goal.F-post g l.colour) l.cells l.sum l.i
