-- `end_row` meets its contract: the columns before j are done.
-- Assumes nothing.
use Rattle.judging.proofs.TidyLaws.{ending-next}
use Rattle.judging.proofs.tidying.end_row.Goals as goal

pub loop-j-preserved : goal.loop-j-preserved
loop-j-preserved c = search ending-next
