-- `remake` meets its contract: the overlap of the pairing that was met.
-- Assumes nothing.
use native.Mathlib.Omega.{arith}
use Rattle.critical.proofs.TableLaws.{heads-few, pair-room, pair-lent, pair-lays}
use Rattle.critical.proofs.VerdictLaws.{remake-partners, remake-some, remake-counted}
use Rattle.critical.proofs.deciding.remake.Goals as goal

pub slice_bounds-overlap_by-end : goal.slice_bounds-overlap_by-end
slice_bounds-overlap_by-end c =
    let room = pair-room _ _ _ _ c.requires.check c.requires.first c.requires.second _ _
    c.row_of-first.ensures c.row_of-second.ensures _ _ c.wide-heads.ensures.0 c.wide-others.ensures.0 in
    omega (arith, room, c.requires.goal-size)

pub slice_bounds-overlap_by-end-2 : goal.slice_bounds-overlap_by-end-2
slice_bounds-overlap_by-end-2 c =
    pair-lent _ _ _ _ c.requires.check c.requires.first c.requires.second _ _
    c.row_of-first.ensures c.row_of-second.ensures _ _ c.wide-heads.ensures.0 c.wide-others.ensures.0 _ c.requires.goal-size

pub overlap_by-requires : goal.overlap_by-requires
overlap_by-requires c = (
  pair-lays _ _ _ _ c.requires.check c.requires.first c.requires.second _ _
      c.row_of-first.ensures c.row_of-second.ensures _ _ c.wide-heads.ensures.0 c.wide-others.ensures.0 _ c.requires.goal-size,
  c.requires.partners-size,
  remake-partners _ _ _ _ c.requires _ _ c.row_of-first.ensures c.row_of-second.ensures,
)

pub second_positions-positions-requires : goal.second_positions-positions-requires
second_positions-positions-requires c =
    let few = heads-few _ _ _ _ c.requires.check c.requires.first c.requires.second _ _
    c.row_of-first.ensures c.row_of-second.ensures _ _ c.wide-heads.ensures.0 c.wide-others.ensures.0 in
    (few.0, few.1, c.requires.partners-size)

pub unwrap-made-requires : goal.unwrap-made-requires
unwrap-made-requires c =
    remake-some _ _ _ _ c.requires _ _ c.row_of-first.ensures c.row_of-second.ensures _ _ c.overlap_by.ensures

pub returns : goal.returns
returns c =
    remake-counted _ _ _ _ c.requires _ _ c.row_of-first.ensures c.row_of-second.ensures _ _ c.wide-heads.ensures.0
    c.wide-others.ensures.0 _ _ _ c.overlap_by.ensures c.unwrap-made.ensures _ c.overlap_by.auto.cells _
    c.second_positions-positions.ensures.0 c.second_positions-positions.ensures.1
