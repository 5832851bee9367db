-- `arrange_by` meets its contract: the constraints before k are placed.
-- Assumes nothing.
use Rattle.std.proofs.Common.{◌≡◌, length}
use Rattle.colours.proofs.OrderLaws.{Arranging}
use Rattle.colours.proofs.order.arrange_by.Given as goal

abbrev pub invariant-loop-k : goal.invariant-loop-k
invariant-loop-k l =
    Arranging l.initial.cells l.cells l.k l.n (length l.seen) (length l.initial.seen)
    × (length l.counts ≡ length l.initial.seen)
