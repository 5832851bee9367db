-- `roketuma::read` meets its contract: the program is refused, or the goal's judgement is that of both.
-- Assumes nothing.
use mathlib.Core.Path.{◌∙◌}
use Rattle.roketuma.proofs.ReadLaws.{program-unreadable, program-goes-on}
use Rattle.inputs.proofs.TabledLaws.{program-tabled}
use Rattle.roketuma.proofs.reading.read.Goals as goal

pub judge_goal-requires : goal.judge_goal-requires
judge_goal-requires c =
    program-tabled c.read_program.ensures _ c.in-Ok.is

pub returns-in-Err : goal.returns-in-Err
returns-in-Err c =
    c.refused.ensures
    ∙ program-unreadable c.read_program.ensures _ _ _ c.in-Err.is c.number.ensures

pub returns-in-Ok : goal.returns-in-Ok
returns-in-Ok c =
    program-goes-on c.read_program.ensures _ c.in-Ok.is _ _
    c.judge_goal.ensures
