-- `number_cells` meets its contract: the cells below i have their numbers.
-- Assumes nothing.
use Rattle.colours.proofs.NumberLaws.{Progress}
use Rattle.colours.proofs.numbering.number_cells.Given as goal

abbrev pub invariant-loop-i : goal.invariant-loop-i
invariant-loop-i l = Progress l.cells l.initial.out l.out l.initial.numbers l.first l.numbers l.next l.i
