-- `running::list` meets its contract: the listing is written, or number 11. Assumes nothing.
use borrow.Author.Rules.{rules}
use Rattle.answers.proofs.ReplyLaws.{listed-short, listed-written}
use Rattle.running.proofs.list.Goals as goal

pub returns-in-None : goal.returns-in-None
returns-in-None c = search (rules, listed-short)

pub returns-in-Some : goal.returns-in-Some
returns-in-Some c = search (rules, listed-written)
