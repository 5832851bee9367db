-- `prefix` meets its contract.
-- Assumes nothing.
use Rattle.fitting.proofs.NotedLaws.{prefix-early, prefix-late}
use Rattle.fitting.proofs.known.prefix.Goals as goal

pub returns-then-v-lt-LOOSE : goal.returns-then-v-lt-LOOSE
returns-then-v-lt-LOOSE c = search prefix-early

pub returns : goal.returns
returns c = search prefix-late
