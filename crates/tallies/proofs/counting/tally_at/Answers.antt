-- `tally_at` meets its contract.
-- Assumes nothing.
use Rattle.tallies.proofs.CountLaws.{tally-there, tally-behind}
use Rattle.tallies.proofs.counting.tally_at.Goals as goal

pub returns-then-s-tally : goal.returns-then-s-tally
returns-then-s-tally c = search tally-there

pub returns-else-s-tally : goal.returns-else-s-tally
returns-else-s-tally c = search tally-behind
