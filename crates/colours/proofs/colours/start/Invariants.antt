-- `start` meets its contract: the cells below x have their colours.
-- Assumes nothing.
use Rattle.std.proofs.Common.{◌≡◌, ℕ, ◌<◌, get_or}
use Rattle.tables.specs.Cells.{cell_term}
use Rattle.colours.specs.Colours.{base}
use Rattle.colours.proofs.colours.start.Given as goal

abbrev pub invariant-loop-x : goal.invariant-loop-x
invariant-loop-x l = (k : ℕ) → k < l.x → get_or l.colours k 0 ≡ base (cell_term k)
