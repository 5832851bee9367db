-- `swap_rows` meets its contract: the columns before c are exchanged.
-- Assumes nothing.
use Rattle.colours.proofs.OrderLaws.{Swapping}
use Rattle.colours.proofs.order.swap_rows.Given as goal

abbrev pub invariant-loop-c : goal.invariant-loop-c
invariant-loop-c l = Swapping l.i l.j l.initial.cells l.cells l.c
