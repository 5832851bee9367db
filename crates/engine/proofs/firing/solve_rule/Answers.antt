-- `solve_rule` meets its contract: the rule's equations are instantiated in a local array, and solved.
-- Assumes nothing.
use Rattle.engine.proofs.RuleLaws.{equations-solvable, rule-solved}
use Rattle.engine.proofs.firing.solve_rule.Goals as goal

pub solve-requires : goal.solve-requires
solve-requires c =
    equations-solvable _ _ _ _ _ _ c.requires c.at_most_four-n.ensures c.equations.ensures.size c.equations.ensures.same _ _
    c.instantiate.ensures

pub returns : goal.returns
returns c =
    rule-solved _ _ _ _ _ _ c.requires c.at_most_four-n.ensures c.equations.ensures.size c.equations.ensures.same _ _
    c.instantiate.ensures _ _ _ _ c.solve.ensures
