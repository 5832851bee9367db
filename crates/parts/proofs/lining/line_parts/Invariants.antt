-- `line_parts` meets its contract: both states have the same constraints after each part.
-- Assumes nothing.
use Rattle.std.proofs.Common.{◌≡◌, ◌-◌, ◌≤◌, length}
use Rattle.colours.specs.Order.{Reordered}
use Rattle.parts.proofs.lining.line_parts.Given as goal

abbrev pub invariant-loop-s : goal.invariant-loop-s
invariant-loop-s l =
    (l.s ≤ l.top) × (l.top ≤ l.n) × (length l.a ≡ length l.initial.a) × Reordered l.initial.a l.a
    × (length l.b ≡ length l.initial.b) × Reordered l.initial.b l.b

abbrev pub decreases-loop-s : goal.decreases-loop-s
decreases-loop-s l = l.top - l.s
