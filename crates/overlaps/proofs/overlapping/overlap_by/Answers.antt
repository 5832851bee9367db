-- `overlap_by` meets its contract: all heads laid, joined, and made the goal.
-- Assumes nothing.
use Rattle.overlaps.proofs.OverlapLaws.{overlap-whole, overlap-none, overlap-finish, overlap-made}
use Rattle.overlaps.proofs.overlapping.overlap_by.Goals as goal

pub join_all-requires : goal.join_all-requires
join_all-requires c =
    overlap-whole _ _ _ _ c.requires.0 c.requires.1 _ c.lay_heads.auto.cells c.lay_heads.ensures _ _
    c.wide-m.ensures.0 c.wide-n.ensures.0 c.requires.2

pub returns-then-not-join_all : goal.returns-then-not-join_all
returns-then-not-join_all c = search overlap-none

pub finish-requires : goal.finish-requires
finish-requires c =
    overlap-finish _ _ _ _ c.requires.0 c.requires.1 _ c.lay_heads.auto.cells c.lay_heads.ensures _ _
    c.wide-m.ensures.0 c.wide-n.ensures.0 _ _ c.join_all.ensures
    c.if-not-join_all.false

pub returns : goal.returns
returns c = search overlap-made
