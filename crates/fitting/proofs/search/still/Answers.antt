-- `still` meets its contract.
-- Assumes nothing.
use borrow.Author.Tests.{lt-ltb, le-ltb}
use Rattle.fitting.proofs.search.still.Goals as goal

pub returns-then-p-from : goal.returns-then-p-from
returns-then-p-from c = rw (lt-ltb _ _ c.if-p-from.true)

pub returns-else-p-from : goal.returns-else-p-from
returns-else-p-from c = rw (le-ltb _ _ c.if-p-from.false)
