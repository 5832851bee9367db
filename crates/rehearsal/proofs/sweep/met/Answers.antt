-- `rehearsal::sweep::met` meets its contract: the number of the answer of `run`. Assumes nothing.
use Rattle.replies.specs.Replies.{ample}
use Rattle.rehearsal.proofs.SweepLaws.{refused-digit, listed-digit}
use Rattle.rehearsal.proofs.sweep.met.Goals as goal

pub returns-in-Err : goal.returns-in-Err
unfolding ample
returns-in-Err c =
    let args' = c.args in
    refused-digit args'.program.now args'.goal.now c.run.ensures _ c.digit.result
    c.in-Err.is c.digit.ensures

pub returns-in-Ok : goal.returns-in-Ok
unfolding ample
returns-in-Ok c =
    let args' = c.args in
    listed-digit args'.program.now args'.goal.now c.run.ensures _
    c.in-Ok.is
