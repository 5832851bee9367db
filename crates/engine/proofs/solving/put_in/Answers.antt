-- `put_in` meets its contract.
-- Assumes nothing.
use Rattle.engine.proofs.SolveLaws.{merged-clash, merged-done}
use Rattle.engine.proofs.solving.put_in.Goals as goal

pub returns-then-v-lt-FIRST_VARIABLE : goal.returns-then-v-lt-FIRST_VARIABLE
returns-then-v-lt-FIRST_VARIABLE c = search merged-clash

pub returns : goal.returns
returns c = search merged-done
