-- `roketuma::put_reply` meets its contract: the refusal's line, or the listing that `run` has written. Assumes nothing.
use Rattle.answers.proofs.PrintLaws.{refusal-printed, listing-printed}
use Rattle.roketuma.proofs.printing.put_reply.Goals as goal

pub returns-in-Err : goal.returns-in-Err
returns-in-Err c =
    let lent = c.run-arg-1.given.0.1 in
    let put = c.put_refusal in
    refusal-printed c.args.program.now c.args.goal.now c.run.ensures lent _
    put.new.out put.result c.in-Err.is put.ensures

pub returns-in-Ok : goal.returns-in-Ok
returns-in-Ok c =
    let lent = c.run-arg-1.given.0.1 in
    listing-printed c.args.program.now c.args.goal.now c.run.ensures lent _
    c.in-Ok.is
