-- `fix` meets its contract: the used cells are paired by now.
-- Assumes nothing.
use Rattle.fixing.proofs.HubLaws.{Fixing}
use Rattle.fixing.proofs.hubs.fix.Given as goal

abbrev pub invariant-loop-used : goal.invariant-loop-used
invariant-loop-used l =
    Fixing l.k l.initial.f l.initial.g l.initial.left l.initial.right l.f l.g l.left l.right l.used
