-- `goals::goal::read_goal` meets its contract: number 1, its lines, then number 10.
-- Assumes nothing.
use Rattle.std.proofs.Common.{arith}
use Rattle.std.proofs.lemmas.Result.{err_from_is_err_and}
use Rattle.goals.proofs.GoalLaws.{goal-long, goal-lines, goal-heavy, goal-read}
use Rattle.goals.proofs.goal.read_goal.Goals as goal

pub returns-then-goal-gt16384 : goal.returns-then-goal-gt16384
returns-then-goal-gt16384 c =
    rw c.at.ensures (goal-long _ _ _ _ _ _ _ c.if-goal-gt16384.true c.requires.0)

pub returns-in_err-counts : goal.returns-in_err-counts
returns-in_err-counts c =
    let p = err_from_is_err_and c.from_residual.result c.from_residual.ensures.1 in
    rw (p.1, p.2)
    (goal-lines _ _ _ _ _ _ _ _ _ (omega (arith, c.if-goal-gt16384.false)) _ c.goal_lines.ensures _
    c.in_err-counts.was)

pub returns-then-heavy : goal.returns-then-heavy
returns-then-heavy c =
    rw c.at-then-heavy.ensures
    (goal-heavy _ _ _ _ _ _ _ _ _ (omega (arith, c.if-goal-gt16384.false)) _ c.goal_lines.ensures _
    c.in_ok-counts.was _ c.weight_of-heavy.ensures (omega (arith, c.if-heavy.true)))

pub returns : goal.returns
returns c =
    goal-read _ _ _ _ _ _ _ _ _ (omega (arith, c.if-goal-gt16384.false)) _ c.goal_lines.ensures _
    c.in_ok-counts.was _ c.weight_of-heavy.ensures (omega (arith, c.if-heavy.false))
