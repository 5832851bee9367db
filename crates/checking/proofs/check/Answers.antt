-- `checking::check` meets its contract: the program is refused, or read and decided on; demand 3 of the answer.
-- Assumes nothing.
use mathlib.Core.Path.{refl}
use Rattle.inputs.proofs.ProgramLaws.{program-ready}
use Rattle.checking.proofs.CheckingLaws.{check-ready, check-refused, checked-demand}
use Rattle.checking.proofs.check.Goals as goal

pub check_read-requires : goal.check_read-requires
check_read-requires c =
    check-ready (program-ready c.read_program.ensures _ c.in-Ok.is refl)

pub returns-in-Err : goal.returns-in-Err
returns-in-Err c =
    checked-demand (check-refused c.read_program.ensures _ _ c.in-Err.is c.number.ensures)

pub returns-in-Ok : goal.returns-in-Ok
returns-in-Ok c = checked-demand c.check_read.ensures
