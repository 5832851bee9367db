-- `append_body` meets its contract: the body's cells are instantiated behind the constraints.
-- Assumes nothing.
use Rattle.engine.proofs.RuleLaws.{body-appended}
use Rattle.engine.proofs.firing.append_body.Goals as goal

pub returns : goal.returns
returns c =
    body-appended _ _ _ _ _ _ _ _ _ c.requires.0 c.requires.3 c.body.ensures.size c.body.ensures.same c.wide-n.ensures.0
    c.instantiate.ensures
