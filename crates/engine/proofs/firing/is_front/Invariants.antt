-- `is_front` meets its contract: the first i positions are 0, 1 and on.
-- Assumes nothing.
use Rattle.std.proofs.Common.{◌≡◌, take}
use Rattle.text.specs.Lists.{up_to}
use Rattle.engine.proofs.firing.is_front.Given as goal

abbrev pub invariant-loop-i : goal.invariant-loop-i
invariant-loop-i l = take l.i l.positions ≡ up_to l.i
