-- `fit_free` meets its contract: a position that is taken fits nothing, and at a free one the match decides.
-- Assumes nothing.
use Rattle.fitting.proofs.SearchLaws.{fit-chosen, fit_free}
use Rattle.fitting.proofs.matching.fit_free.Goals as goal

pub returns-then-not-is_among : goal.returns-then-not-is_among
returns-then-not-is_among c =
    fit_free _ _ _ _ (rw c.if-not-is_among.true at c.is_among.ensures) c.match_constraint.ensures

pub returns-else-not-is_among : goal.returns-else-not-is_among
returns-else-not-is_among c =
    rw c.if-not-is_among.false
    (fit-chosen _ _ _ (rw c.if-not-is_among.false at c.is_among.ensures) c.requires.bindings-size)
