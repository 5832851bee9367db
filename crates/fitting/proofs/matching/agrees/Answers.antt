-- `agrees` meets its contract.
-- Assumes nothing.
use Rattle.std.proofs.Common.{eq-eqb, ne_eqb}
use Rattle.fitting.proofs.Opened.{opened}
use Rattle.fitting.proofs.matching.agrees.Goals as goal

pub returns-then-want-eq0 : goal.returns-then-want-eq0
unfolding opened
returns-then-want-eq0 c = rw (eq-eqb _ 0 c.if-want-eq0.true)

pub returns-else-want-eq0 : goal.returns-else-want-eq0
unfolding opened
returns-else-want-eq0 c = rw (ne_eqb _ 0 c.if-want-eq0.false)
