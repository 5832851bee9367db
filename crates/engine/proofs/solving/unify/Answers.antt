-- `unify` meets its contract: of two cells the larger becomes the smaller.
-- Assumes nothing.
use Rattle.engine.proofs.SolveLaws.{merged-same, merged-turned}
use Rattle.engine.proofs.solving.unify.Goals as goal

pub returns-then-a-b : goal.returns-then-a-b
returns-then-a-b c =
    merged-same _ _ _ _ _ c.if-a-b.true

pub returns-then-a-b-2 : goal.returns-then-a-b-2
returns-then-a-b-2 c =
    merged-turned _ _ _ _ _ _ _ _ _ c.if-a-b-2.true c.put_in.ensures
