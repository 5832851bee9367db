-- `seek` meets its contract: no constraint from p up to q is wanted.
-- Assumes nothing.
use Rattle.fitting.specs.Cells.{FirstWanted}
use Rattle.fitting.proofs.search.seek.Given as goal

abbrev pub invariant-loop-q : goal.invariant-loop-q
invariant-loop-q l = FirstWanted l.symbol l.one l.two l.cells l.p l.q l.q
