-- `relabel` meets its contract: the constraints below i are relabelled.
-- Assumes nothing.
use Rattle.colours.proofs.KeyLaws.{Relabelling}
use Rattle.colours.proofs.keys.relabel.Given as goal

abbrev pub invariant-loop-i : goal.invariant-loop-i
invariant-loop-i l = Relabelling l.own l.keys l.initial.cells l.cells l.i
