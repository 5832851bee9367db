-- `join_heads` meets its contract: heads of different symbols do not unify, others where their terms do.
-- Assumes nothing.
use Rattle.overlaps.proofs.HeadLaws.{row_apart, row-joined}
use Rattle.overlaps.proofs.joining.join_heads.Goals as goal

pub returns-then-cells-a : goal.returns-then-cells-a
returns-then-cells-a c = search row_apart

pub returns : goal.returns
returns c = search row-joined
