-- `solve` meets its contract: the equations from number i on, in the state so far, give the answer for all of them.
-- Assumes nothing.
use Rattle.engine.proofs.SolveLaws.{solving-end, solving-clash, solving-next}
use Rattle.engine.proofs.solving.solve.Goals as goal

pub returns-then-not-unify : goal.returns-then-not-unify
returns-then-not-unify c = search (solving-clash)

pub loop-i-preserved : goal.loop-i-preserved
loop-i-preserved c = search (solving-next)

pub returns : goal.returns
returns c = search solving-end
