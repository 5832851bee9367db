-- `goals::goal::goal_line` meets its contract: another form, a line that is refused, or one constraint more.
-- Assumes nothing.
use Rattle.std.proofs.Common.{ap, not}
use Rattle.std.proofs.lemmas.Result.{err_from_is_err_and}
use Rattle.goals.proofs.GoalLaws.{line-other-form, line_refused, line_read}
use Rattle.goals.proofs.goal.goal_line.Goals as goal

pub returns-then-not-is_goal : goal.returns-then-not-is_goal
returns-then-not-is_goal c =
    line-other-form _ _ _ _ _ _ _ _ c.is_goal.ensures (ap not c.if-not-is_goal.true)

pub returns-in_err-r : goal.returns-in_err-r
returns-in_err-r c =
    let p = err_from_is_err_and c.from_residual.result c.from_residual.ensures.1 in
    rw (p.1, p.2)
    (line_refused _ _ _ _ _ _ _ _ c.is_goal.ensures (ap not c.if-not-is_goal.false) c.requires.2 c.requires.1 _ _ _
    c.read_constraint.ensures _ c.in_err-r.was)

pub returns : goal.returns
returns c =
    line_read _ _ _ _ _ _ _ _ c.is_goal.ensures (ap not c.if-not-is_goal.false) c.requires.2 c.requires.1 _ _ _
    c.read_constraint.ensures _ c.in_ok-r.was _ _ c.number_letters-row.ensures _
    c.write_cells.ensures
