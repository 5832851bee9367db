-- `known_at` meets its contract.
-- Assumes nothing.
use Rattle.tallies.proofs.ComeLaws.{entry-there, nothing-behind}
use Rattle.fitting.proofs.known.known_at.Goals as goal

pub returns-then-i-known : goal.returns-then-i-known
returns-then-i-known c = search entry-there

pub returns-else-i-known : goal.returns-else-i-known
returns-else-i-known c = search nothing-behind
