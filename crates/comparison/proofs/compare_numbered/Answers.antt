-- `compare_numbered` meets its contract: each test says what it says of the answer.
-- Assumes nothing.
use Rattle.comparison.proofs.DecideLaws.{numbered-bound, straight-same, numbered-digest}
use Rattle.comparison.proofs.compare_numbered.Goals as goal

pub returns-then-not-same_cells : goal.returns-then-not-same_cells
returns-then-not-same_cells c =
    numbered-bound _ _ _ _ _ _ _ c.requires (c.same_cells.ensures.apart c.if-not-same_cells.true)

pub returns-then-same_cells : goal.returns-then-same_cells
returns-then-same_cells c =
    straight-same _ _ _ _ (c.same_cells.ensures.same c.if-not-same_cells.false)
    (c.same_cells-2.ensures.same c.if-same_cells.true)

pub returns-then-first_digest : goal.returns-then-first_digest
returns-then-first_digest c =
    numbered-digest _ _ _ _ _ _ _ c.requires (c.same_cells.ensures.same c.if-not-same_cells.false) _ _
    c.first_digest.ensures c.first_digest-2.ensures c.if-first_digest.true
