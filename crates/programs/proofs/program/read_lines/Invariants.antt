-- `programs::program::read_lines` meets its contract: what is left of the text, read from here, is the answer.
-- Assumes nothing.
use Prim.Native.Nat.{◌-◌}
use lib.ListN.{length}
use Rattle.programs.proofs.Whole.{LinesSoFar}
use Rattle.programs.proofs.program.read_lines.Given as goal

abbrev pub invariant-loop-at : goal.invariant-loop-at
invariant-loop-at l =
    LinesSoFar l.text l.initial.names l.initial.places l.names l.places l.symbols l.rules l.at l.number l.stage

abbrev pub decreases-loop-at : goal.decreases-loop-at
decreases-loop-at l = length l.text - l.at
