-- `roketuma::roketuma_run` meets its contract: the answer of `run`, as a number. Assumes nothing.
use Rattle.answers.proofs.NumberLaws.{returned-refused, returned-listed}
use Rattle.roketuma.proofs.exported.roketuma_run.Goals as goal

pub returns-in-Err : goal.returns-in-Err
returns-in-Err c =
    returned-refused c.run.ensures c.in-Err.is c.refusal_number.ensures

pub returns-in-Ok : goal.returns-in-Ok
returns-in-Ok c =
    returned-listed c.run.ensures c.in-Ok.is
