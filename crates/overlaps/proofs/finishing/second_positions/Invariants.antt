-- `second_positions` meets its contract: the positions of the first g heads and those of the others are all.
-- Assumes nothing.
use Prim.Native.Nat.{◌≤◌}
use lib.ListN.{take}
use Rattle.overlaps.proofs.PositionLaws.{Standing}
use Rattle.overlaps.proofs.finishing.second_positions.Given as goal

abbrev pub invariant-loop-g : goal.invariant-loop-g
invariant-loop-g l = Standing l.m l.n (take l.m l.partners) l.positions l.free l.g × (l.m ≤ 4)
