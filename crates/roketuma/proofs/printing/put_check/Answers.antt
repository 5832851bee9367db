-- `roketuma::put_check` meets its contract: the refusal's line, or the listing that `check` wrote. Assumes nothing.
use Rattle.answers.proofs.PrintLaws.{check-turned, check-told}
use Rattle.roketuma.proofs.printing.put_check.Goals as goal

pub returns-in-Ok : goal.returns-in-Ok
returns-in-Ok c =
    check-told c.args.input.now c.check.ensures.0 c.check-arg-1.given.0.1
    _ _ c.in-Ok.is c.length.ensures

pub returns-in-Err : goal.returns-in-Err
returns-in-Err c =
    let put = c.put_refusal in
    check-turned c.args.input.now c.check.ensures.0 c.check-arg-1.given.0.1
    _ put.new.out put.result c.in-Err.is put.ensures
