-- `join_all` meets its contract: the first h heads are joined, whichever heads these are.
-- Assumes nothing.
use Rattle.overlaps.proofs.OverlapLaws.{all-partner, all-next, all-cut}
use Rattle.overlaps.proofs.overlapping.join_all.Goals as goal

pub join_partner-requires : goal.join_partner-requires
join_partner-requires c = search all-partner

pub returns-then-not-join_partner : goal.returns-then-not-join_partner
returns-then-not-join_partner c = search all-cut

pub loop-h-preserved : goal.loop-h-preserved
loop-h-preserved c = search all-next
