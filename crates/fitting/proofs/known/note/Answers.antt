-- `note` meets its contract: behind the end nothing is set.
-- Assumes nothing.
use Rattle.fitting.proofs.KnownLaws.{set-behind}
use Rattle.fitting.proofs.known.note.Goals as goal

pub returns-else-i-known : goal.returns-else-i-known
returns-else-i-known c = search set-behind
