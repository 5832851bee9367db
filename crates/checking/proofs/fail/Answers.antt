-- `checking::fail` meets its contract: the overlap is listed, or number 11. Assumes nothing.
use Rattle.checking.proofs.CheckingLaws.{overlap-short, overlap-written}
use Rattle.checking.proofs.fail.Goals as goal

pub returns-in-None : goal.returns-in-None
returns-in-None c =
    overlap-short c.list_overlap.ensures c.in-None.is

pub returns-in-Some : goal.returns-in-Some
returns-in-Some c =
    overlap-written c.list_overlap.ensures _ c.in-Some.is
