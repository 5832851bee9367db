-- `checking::pass` meets its contract: the line is written, or number 11. Assumes nothing.
use Rattle.checking.proofs.CheckingLaws.{pass-short, pass-written}
use Rattle.checking.proofs.pass.Goals as goal

pub returns-in-None : goal.returns-in-None
returns-in-None c = pass-short c.list_pass.ensures c.in-None.is

pub returns-in-Some : goal.returns-in-Some
returns-in-Some c =
    pass-written c.list_pass.ensures _ c.in-Some.is
