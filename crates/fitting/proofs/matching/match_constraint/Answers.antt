-- `match_constraint` meets its contract: the symbols, and then the terms.
-- Assumes nothing.
use Rattle.std.proofs.Common.{ne_eqb}
use Rattle.fitting.proofs.MatchLaws.{match-symbols, match-others}
use Rattle.fitting.proofs.matching.match_constraint.Goals as goal

pub returns-then-head-constraint : goal.returns-then-head-constraint
returns-then-head-constraint c = search match-symbols

pub returns-else-head-constraint : goal.returns-else-head-constraint
returns-else-head-constraint c =
    rw (ne_eqb _ _ c.if-head-constraint.false) (match-others _ _ _ c.if-head-constraint.false c.requires)
