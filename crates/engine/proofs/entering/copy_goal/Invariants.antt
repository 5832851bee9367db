-- `copy_goal` meets its contract: after i turns the first i cells are the goal's.
-- Assumes nothing.
use Rattle.std.proofs.Common.{◌≡◌, take}
use Rattle.engine.proofs.entering.copy_goal.Given as goal

abbrev pub invariant-loop-i : goal.invariant-loop-i
invariant-loop-i l = take l.i l.cells ≡ take l.i l.goal
