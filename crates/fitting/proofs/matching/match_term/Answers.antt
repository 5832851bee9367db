-- `match_term` meets its contract: one law for each way.
-- Assumes nothing.
use Rattle.fitting.proofs.MatchLaws.{match-constant, match-new, match-settled}
use Rattle.fitting.proofs.matching.match_term.Goals as goal

pub returns-then-head-lt-FIRST_VARIABLE : goal.returns-then-head-lt-FIRST_VARIABLE
returns-then-head-lt-FIRST_VARIABLE c = match-constant _ _ _ c.if-head-lt-FIRST_VARIABLE.true c.requires.2

pub returns-then-settled-eq0 : goal.returns-then-settled-eq0
returns-then-settled-eq0 c =
    match-new _ _ _ c.if-head-lt-FIRST_VARIABLE.false c.requires.0 c.requires.1 c.requires.2 c.if-settled-eq0.true

pub returns : goal.returns
returns c = search match-settled
