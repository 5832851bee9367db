-- `drop_joined` meets its contract: the first k heads and those from g on that stay are all that stay.
-- Assumes nothing.
use Prim.Native.Nat.{◌≤◌}
use lib.ListN.{take}
use Rattle.overlaps.proofs.DropLaws.{Dropping}
use Rattle.overlaps.proofs.finishing.drop_joined.Given as goal

abbrev pub invariant-loop-g : goal.invariant-loop-g
invariant-loop-g l =
    Dropping l.m l.n (take l.m l.partners) l.initial.cells l.cells l.g l.k × (l.m ≤ 4) × (l.n ≤ 4)
