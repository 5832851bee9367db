-- `tables::numbering::renumbered` meets its contract. Assumes nothing.
use Rattle.tables.proofs.NumberLaws.{cell_below, cell-outside, cell-unnumbered, cell-new}
use Rattle.tables.proofs.numbering.renumbered.Goals as goal

pub returns-then-x-lt-FIRST_VARIABLE : goal.returns-then-x-lt-FIRST_VARIABLE
returns-then-x-lt-FIRST_VARIABLE c = search cell_below

pub returns-then-table-y : goal.returns-then-table-y
returns-then-table-y c = search cell-outside

pub returns-then-new-eq0 : goal.returns-then-new-eq0
returns-then-new-eq0 c = search cell-unnumbered

pub returns-else-new-eq0 : goal.returns-else-new-eq0
returns-else-new-eq0 c = search cell-new
