-- `second_positions` meets its contract: the positions of the first g heads and those of the others are all.
-- Assumes nothing.
use Rattle.std.proofs.Common.{rules, arith}
use Rattle.overlaps.proofs.PositionLaws.{standing-end, standing-joined, standing-free}
use Rattle.overlaps.proofs.finishing.second_positions.Goals as goal
use Rattle.overlaps.proofs.finishing.second_positions.Goals.{in-Some, in-None}

pub loop-g-preserved : goal.loop-g-preserved
loop-g-preserved c = (
  elim c.match-partner_of.branch [
    | in-Some w ↦
        rw (w.positions-is, w.free-is)
        (standing-joined _ _ _ _ _ _ c.loop-g.invariant.0 c.loop-g-test.true _ w.in-Some.ensures.0
        w.in-Some.ensures.1)
    | in-None w ↦
        rw (w.positions-is, w.free-is)
        (standing-free _ _ _ _ _ _ c.loop-g.invariant.0 c.loop-g-test.true w.in-None.ensures)
  ],
  omega arith,
)

pub returns : goal.returns
returns c = (search standing-end, search rules)
