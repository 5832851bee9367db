-- `choose` meets its contract: the rules from i on give the choice among all of them, and what is known stays true.
-- Assumes nothing.
use mathlib.Core.Path.{◌≡◌}
use lib.ListN.{length}
use Rattle.fitting.proofs.ChooseLaws.{Noting}
use Rattle.fitting.proofs.search.choose.Given as goal

abbrev pub invariant-loop-i : goal.invariant-loop-i
invariant-loop-i l =
    Noting l.rules l.n l.initial.known l.last l.gone l.cells l.known l.i × (length l.positions ≡ 4) × (length l.bindings ≡ 26)
