-- `tables::numbering::used` meets its contract: no cell passed is 0. Assumes nothing.
use Rattle.std.proofs.Common.{◌≡◌, ◌+◌, drop}
use Rattle.tables.specs.Numbers.{used_cells}
use Rattle.tables.proofs.numbering.used.Given as goal

abbrev pub invariant-loop-i : goal.invariant-loop-i
invariant-loop-i l = l.i + used_cells (drop l.i l.cells) ≡ used_cells l.cells
