-- `roketuma::roketuma_read` meets its contract: the answer of `read`, as a number. Assumes nothing.
use Rattle.roketuma.proofs.ReadLaws.{returned-unreadable, returned-readable}
use Rattle.roketuma.proofs.reading.roketuma_read.Goals as goal

pub returns-in-Err : goal.returns-in-Err
returns-in-Err c =
    returned-unreadable c.read.ensures c.in-Err.is c.refusal_number.ensures

pub returns-in-Ok : goal.returns-in-Ok
returns-in-Ok c = returned-readable c.read.ensures c.in-Ok.is
