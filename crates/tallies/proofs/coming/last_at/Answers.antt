-- `last_at` meets its contract.
-- Assumes nothing.
use Rattle.tallies.proofs.ComeLaws.{symbol-there, symbol-behind}
use Rattle.tallies.proofs.coming.last_at.Goals as goal

pub returns-then-s-last : goal.returns-then-s-last
returns-then-s-last c = search symbol-there

pub returns-else-s-last : goal.returns-else-s-last
returns-else-s-last c = search symbol-behind
