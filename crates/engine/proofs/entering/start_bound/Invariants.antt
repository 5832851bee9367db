-- `start_bound` meets its contract: after i turns the first i goal variables are themselves.
-- Assumes nothing.
use Rattle.std.proofs.Common.{◌≡◌, map, take}
use Rattle.text.specs.Lists.{tabled}
use Rattle.semantics.specs.Terms.{var}
use Rattle.tables.specs.Cells.{cell_term}
use Rattle.engine.proofs.entering.start_bound.Given as goal

abbrev pub invariant-loop-i : goal.invariant-loop-i
invariant-loop-i l = map cell_term (take l.i l.bound) ≡ tabled var l.i
