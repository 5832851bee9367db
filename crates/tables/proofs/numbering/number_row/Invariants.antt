-- `tables::numbering::number_row` meets its contract: the terms passed are rewritten, and those left lead to the whole order.
-- Assumes nothing.
use Rattle.tables.proofs.RowLaws.{Passing}
use Rattle.tables.proofs.numbering.number_row.Given as goal

abbrev pub invariant-loop-i : goal.invariant-loop-i
invariant-loop-i l = Passing l.initial.table l.before l.initial.row l.table l.row l.seen l.i
