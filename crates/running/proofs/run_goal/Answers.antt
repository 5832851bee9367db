-- `running::run_goal` meets its contract: the goal is refused, or ready to be run. Assumes nothing.
use native.Mathlib.Omega.{arith}
use mathlib.Core.Path.{sym}
use lib.Seq.{length-take-le}
use Rattle.inputs.proofs.TabledLaws.{tabled-used, tabled-room}
use Rattle.inputs.proofs.TabledLaws.{goal-tabled, few-own}
use Rattle.running.proofs.ReadingLaws.{goal-refused, few-letters, goal-ready}
use Rattle.running.proofs.run_goal.Goals as goal

pub overflow_mul-e : goal.overflow_mul-e
overflow_mul-e c =
    omega (arith, tabled-used (goal-tabled c.requires), c.requires.symbols-size)

pub slice_bounds-read_goal-end : goal.slice_bounds-read_goal-end
slice_bounds-read_goal-end c =
    sym (length-take-le _ _ (tabled-used (goal-tabled c.requires)))

pub read_goal-requires : goal.read_goal-requires
read_goal-requires c =
    (tabled-room (goal-tabled c.requires) (omega arith) (omega arith), few-own c.requires)

pub slice_bounds-letters-end : goal.slice_bounds-letters-end
slice_bounds-letters-end c =
    few-letters c.requires c.args.goal.now c.read_goal.ensures c.in-Ok.is

pub slice_bounds-run_read-end : goal.slice_bounds-run_read-end
slice_bounds-run_read-end c =
    sym (length-take-le _ _
    (few-letters c.requires c.args.goal.now c.read_goal.ensures c.in-Ok.is))

pub run_read-requires : goal.run_read-requires
run_read-requires c =
    goal-ready c.requires c.args.goal.now c.read_goal.ensures c.in-Ok.is
    c.read_goal.auto.cells

pub returns-in-Err : goal.returns-in-Err
returns-in-Err c =
    goal-refused c.requires c.args.goal.now c.read_goal.ensures _ _ c.in-Err.is c.number.ensures
