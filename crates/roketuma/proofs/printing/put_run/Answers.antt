-- `roketuma::put_run` meets its contract: the reply to the parts of the input. Assumes nothing.
use borrow.Author.Rules.{rules}
use Rattle.inputs.proofs.TabledLaws.{front_length}
use Rattle.answers.proofs.PrintLaws.{parts-printed}
use Rattle.roketuma.proofs.printing.put_run.Goals as goal

pub slice_bounds-put_reply-end : goal.slice_bounds-put_reply-end
slice_bounds-put_reply-end c = search (rules, front_length)

pub returns : goal.returns
returns c =
    let split = c.split_goal-split in
    let input' = c.args.input.now in
    let put = c.put_reply in
    parts-printed input' split.result.end split.result.start split.ensures put.ensures
