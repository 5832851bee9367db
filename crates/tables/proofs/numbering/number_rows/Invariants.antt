-- `tables::numbering::number_rows` meets its contract: the constraints passed are rewritten, and those left lead to the whole
-- order. Assumes nothing.
use Prim.Native.Nat.{◌-◌}
use lib.ListN.{length}
use Rattle.tables.proofs.RowLaws.{PassingRows}
use Rattle.tables.proofs.numbering.number_rows.Given as goal

abbrev pub invariant-loop-i : goal.invariant-loop-i
invariant-loop-i l = PassingRows l.initial.table l.before l.initial.cells l.table l.cells l.seen l.i

abbrev pub decreases-loop-i : goal.decreases-loop-i
decreases-loop-i l = length l.initial.cells - l.i
