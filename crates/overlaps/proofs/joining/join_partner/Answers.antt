-- `join_partner` meets its contract: no partner, one that an earlier head has, and a new one.
-- Assumes nothing.
use Rattle.overlaps.proofs.HeadLaws.{partner-none, partner-repeat, partner-heads, partner-new}
use Rattle.overlaps.proofs.joining.join_partner.Goals as goal

pub returns-then-d-eq0 : goal.returns-then-d-eq0
returns-then-d-eq0 c = search partner-none

pub returns-then-is_chosen : goal.returns-then-is_chosen
returns-then-is_chosen c = search partner-repeat

pub join_heads-requires : goal.join_heads-requires
join_heads-requires c = search partner-heads

pub returns : goal.returns
returns c =
    partner-new _ _ _ _ _ c.requires c.if-d-eq0.false _ _ _ c.if-is_chosen.false
    c.is_chosen.ensures c.join_heads.ensures
