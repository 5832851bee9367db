-- Opens every definition of this crate at once: a proof that says `unfolding opened` computes with all of them.
-- Assumes nothing.
use Prim.Native.Nat.{ℕ}
use Rattle.engine.specs.Cells.{swap, clashes, merge, instance_cell, moved_row, closed_gap}
use Rattle.engine.specs.Runs.{store_of}
use Rattle.engine.specs.Stated.{match_row, fire_row}

-- a name to say on an `unfolding` line
unfoldable pub opened : ℕ
unfolding swap clashes merge instance_cell moved_row closed_gap store_of match_row fire_row
opened = 0
