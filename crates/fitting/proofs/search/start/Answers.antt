-- `start` meets its contract.
-- Assumes nothing.
use borrow.Author.Tests.{eq-eqb, ne_eqb}
use Rattle.fitting.proofs.search.start.Goals as goal

pub returns-then-left-eq1 : goal.returns-then-left-eq1
returns-then-left-eq1 c = rw (eq-eqb _ 1 c.if-left-eq1.true)

pub returns-else-left-eq1 : goal.returns-else-left-eq1
returns-else-left-eq1 c = rw (ne_eqb _ 1 c.if-left-eq1.false)
