-- `checking::end_shown` meets its contract: a live end with its variables, and a failed one without. Assumes nothing.
use Rattle.checking.proofs.CheckingLaws.{end_live, end-failed}
use Rattle.checking.proofs.end_shown.Goals as goal

pub returns-in-Some : goal.returns-in-Some
returns-in-Some c = end_live c.args.end _ c.wide.result c.in-Some.is c.wide.ensures.0

pub returns-in-None : goal.returns-in-None
returns-in-None c = end-failed c.args.end c.in-None.is
