-- `goals::goal::goal_lines` meets its contract: what is left of the text, read from here, is the answer.
-- Assumes nothing.
use mathlib.Core.Path.{◌≡◌}
use Prim.Native.Nat.{◌-◌}
use lib.ListN.{length}
use Rattle.goals.proofs.GoalLaws.{LinesSoFar}
use Rattle.goals.proofs.goal.goal_lines.Given as goal

abbrev pub invariant-loop-at : goal.invariant-loop-at
invariant-loop-at l =
    LinesSoFar l.goal l.symbols l.initial.names l.initial.places l.constants l.names l.places l.cells l.letters l.at l.number
    l.counts
    × (length l.cells ≡ length l.initial.cells)

abbrev pub decreases-loop-at : goal.decreases-loop-at
decreases-loop-at l = length l.goal - l.at
