-- `walk_pairings` meets its contract: the heads of both rules laid, and the walk from no partner on.
-- Assumes nothing.
use Rattle.std.proofs.Common.{refl, replicate}
use Rattle.critical.proofs.TableLaws.{pair-room, pair-lent, pair-lays, pair-walkable, pair-walked}
use Rattle.critical.proofs.walking.walk_pairings.Goals as goal

pub slice_bounds-cells-end : goal.slice_bounds-cells-end
slice_bounds-cells-end c =
    pair-room _ _ _ _ c.requires.0 c.requires.1 c.requires.2 _ _ c.row_of-first.ensures
    c.row_of-second.ensures _ _ c.wide-heads.ensures.0 c.wide-partners.ensures.0

pub slice_bounds-lay_heads-end : goal.slice_bounds-lay_heads-end
slice_bounds-lay_heads-end c =
    pair-lent _ _ _ _ c.requires.0 c.requires.1 c.requires.2 _ _ c.row_of-first.ensures
    c.row_of-second.ensures _ _ c.wide-heads.ensures.0 c.wide-partners.ensures.0 (replicate 40 0) refl

pub lay_heads-requires : goal.lay_heads-requires
lay_heads-requires c =
    pair-lays _ _ _ _ c.requires.0 c.requires.1 c.requires.2 _ _ c.row_of-first.ensures
    c.row_of-second.ensures _ _ c.wide-heads.ensures.0 c.wide-partners.ensures.0 (replicate 40 0) refl

pub walk-requires : goal.walk-requires
walk-requires c = (
  pair-walkable _ _ _ _ c.requires.0 c.requires.1 c.requires.2 _ _ c.row_of-first.ensures
      c.row_of-second.ensures _ _ c.wide-heads.ensures.0 c.wide-partners.ensures.0 (replicate 40 0) refl _ _
      c.lay_heads.auto.cells c.lay_heads.ensures c.requires.3,
  c.requires.4,
)

pub returns : goal.returns
returns c =
    pair-walked _ _ _ _ c.requires.0 c.requires.1 c.requires.2 _ _ c.row_of-first.ensures
    c.row_of-second.ensures _ _ c.wide-heads.ensures.0 c.wide-partners.ensures.0 _ _ c.walk.ensures
