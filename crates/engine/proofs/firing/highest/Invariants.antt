-- `highest` meets its contract: the highest of the positions so far.
-- Assumes nothing.
use Rattle.std.proofs.Common.{take}
use Rattle.engine.specs.States.{Highest}
use Rattle.engine.proofs.firing.highest.Given as goal

abbrev pub invariant-loop-q : goal.invariant-loop-q
invariant-loop-q l = Highest (take l.q-index l.positions) l.p l.top
