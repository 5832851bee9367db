-- `tables::numbering::keep` meets its contract: each variable passed has its own cell. Assumes nothing.
use Rattle.tables.proofs.NumberLaws.{Keeping}
use Rattle.tables.proofs.numbering.keep.Given as goal

abbrev pub invariant-loop-i : goal.invariant-loop-i
invariant-loop-i l = Keeping l.initial.table l.table l.i
