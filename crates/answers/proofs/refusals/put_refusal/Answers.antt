-- `answers::put_refusal` meets its contract: the line with the letter of its text. Assumes nothing.
use Rattle.answers.proofs.PrintLaws.{refusal-program, refusal-goal}
use Rattle.answers.proofs.refusals.put_refusal.Goals as goal

pub returns-in-S : goal.returns-in-S
returns-in-S c =
    refusal-program c.args.number c.args.line c.in-S.is c.put_line.ensures

pub returns-in-G : goal.returns-in-G
returns-in-G c =
    refusal-goal c.args.number c.args.line c.in-G.is c.put_line-in-G.ensures
