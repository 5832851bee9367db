-- `line_part` meets its contract: the second state has the same constraints after each try.
-- Assumes nothing.
use Rattle.std.proofs.Common.{◌≡◌, length}
use Rattle.colours.specs.Order.{Reordered}
use Rattle.parts.proofs.lining.line_part.Given as goal

abbrev pub invariant-loop-last : goal.invariant-loop-last
invariant-loop-last l = (length l.b ≡ length l.initial.b) × Reordered l.initial.b l.b
