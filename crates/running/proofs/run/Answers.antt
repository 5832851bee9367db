-- `running::run` meets its contract: the program is refused, or ready for the goal. Assumes nothing.
use Rattle.std.proofs.Common.{refl}
use Rattle.running.proofs.ReadingLaws.{program-refused}
use Rattle.inputs.proofs.ProgramLaws.{program-ready}
use Rattle.running.proofs.run.Goals as goal

pub run_goal-requires : goal.run_goal-requires
run_goal-requires c =
    program-ready c.read_program.ensures _ c.in-Ok.is refl

pub returns-in-Err : goal.returns-in-Err
returns-in-Err c = program-refused c.read_program.ensures c.args.goal.now _ _ c.in-Err.is c.number.ensures
