-- `roketuma::judge_goal` meets its contract: the reader's answer is the judgement's. Assumes nothing.
use native.Mathlib.Omega.{arith}
use mathlib.Core.Path.{sym, ◌∙◌}
use lib.Seq.{length-take-le}
use Rattle.inputs.proofs.TabledLaws.{tabled-used, tabled-room}
use Rattle.roketuma.proofs.ReadLaws.{goal-unreadable, goal-readable}
use Rattle.roketuma.proofs.reading.judge_goal.Goals as goal

pub slice_bounds-read_goal-end : goal.slice_bounds-read_goal-end
slice_bounds-read_goal-end c =
    sym (length-take-le _ _ (tabled-used c.requires))

pub read_goal-requires : goal.read_goal-requires
read_goal-requires c =
    (tabled-room c.requires (omega arith) (omega arith), c.requires.few-constants)

pub returns-in-Err : goal.returns-in-Err
returns-in-Err c =
    c.refused.ensures
    ∙ goal-unreadable c.requires c.args.goal.now c.read_goal.ensures _
    _ c.in-Err.is c.number.ensures

pub returns-in-Ok : goal.returns-in-Ok
returns-in-Ok c =
    goal-readable c.requires c.args.goal.now c.read_goal.ensures _ c.in-Ok.is
