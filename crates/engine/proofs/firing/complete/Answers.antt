-- `complete` meets its contract: append, solve.
-- Assumes nothing.
use Rattle.engine.proofs.RuleLaws.{complete-equated, complete-done, complete-failed}
use Rattle.engine.proofs.firing.complete.Goals as goal

pub solve_rule-requires : goal.solve_rule-requires
solve_rule-requires c = search complete-equated

pub returns-then-solve_rule : goal.returns-then-solve_rule
returns-then-solve_rule c =
    let solved = rw c.if-solve_rule.true at c.solve_rule.ensures in search complete-done

pub returns : goal.returns
returns c =
    let solved = rw c.if-solve_rule.false at c.solve_rule.ensures in search complete-failed
