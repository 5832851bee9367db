-- `roketuma::roketuma_check` meets its contract: the answer of `check`, as a number. Assumes nothing.
use Rattle.answers.proofs.NumberLaws.{check-few, check-returned}
use Rattle.roketuma.proofs.exported.roketuma_check.Goals as goal

pub returns : goal.returns
returns c =
    check-returned c.args.program.now c.check.ensures c.check_number.ensures

pub check_number-requires : goal.check_number-requires
check_number-requires c =
    check-few c.args.program.now c.check.ensures.0
