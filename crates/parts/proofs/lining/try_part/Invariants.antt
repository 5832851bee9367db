-- `try_part` meets its contract: the second state has the same constraints after each change.
-- Assumes nothing.
use Rattle.std.proofs.Common.{◌≡◌, ◌≤◌, length}
use Rattle.colours.specs.Order.{Reordered}
use Rattle.parts.proofs.lining.try_part.Given as goal

abbrev pub invariant-loop-i : goal.invariant-loop-i
invariant-loop-i l = (l.e ≤ l.n) × (length l.b ≡ length l.initial.b) × Reordered l.initial.b l.b
