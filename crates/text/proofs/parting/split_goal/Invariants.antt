-- `text::parting::split_goal` meets its contract: what was passed is the program's, and the rest is parted from here on.
-- Assumes nothing.
use mathlib.Core.Path.{◌≡◌}
use Prim.Native.Nat.{◌≤◌, ◌-◌}
use lib.ListN.{length, take, drop}
use Rattle.text.specs.Lines.{parted_from, parted}
use Rattle.text.specs.Cursors.{behind}
use Rattle.text.proofs.parting.split_goal.Given as goal

abbrev pub invariant-loop-i : goal.invariant-loop-i
invariant-loop-i l =
    parted l.s ≡ behind (take l.i l.s) (parted_from l.fresh (drop l.i l.s))
