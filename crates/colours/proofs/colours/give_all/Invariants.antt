-- `colours::colours::give_all` meets its contract. Assumes nothing.
use Rattle.colours.proofs.ColourLaws.{Giving}
use Rattle.colours.proofs.colours.give_all.Given as goal

abbrev pub invariant-loop-i : goal.invariant-loop-i
invariant-loop-i l = Giving l.cells l.n l.colours l.initial.received l.received l.i
