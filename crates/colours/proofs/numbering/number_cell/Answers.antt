-- `number_cell` meets its contract: a constant, a variable that has its number, and one that gets the next.
-- Assumes nothing.
use Rattle.colours.proofs.NumberLaws.{number-constant, number-known, number-new}
use Rattle.colours.proofs.numbering.number_cell.Goals as goal

pub returns-then-x-lt-FIRST_VARIABLE : goal.returns-then-x-lt-FIRST_VARIABLE
returns-then-x-lt-FIRST_VARIABLE c = search number-constant

pub returns-then-known-ne0 : goal.returns-then-known-ne0
returns-then-known-ne0 c = search number-known

pub returns : goal.returns
returns c = search number-new
