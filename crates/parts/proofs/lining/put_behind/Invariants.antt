-- `put_behind` meets its contract: the constraints are the same after each change.
-- Assumes nothing.
use Rattle.std.proofs.Common.{◌≡◌, length}
use Rattle.colours.specs.Order.{Reordered}
use Rattle.parts.proofs.lining.put_behind.Given as goal

abbrev pub invariant-loop-i : goal.invariant-loop-i
invariant-loop-i l = (length l.a ≡ length l.initial.a) × Reordered l.initial.a l.a
