-- `walk_row` meets its contract: the overlaps with the rules from j on are left.
-- Assumes nothing.
use Rattle.std.proofs.Common.{◌≡◌, length}
use Rattle.critical.proofs.TableLaws.{Row}
use Rattle.critical.proofs.walking.walk_row.Given as goal

abbrev pub invariant-loop-j : goal.invariant-loop-j
invariant-loop-j l =
    Row l.rules l.n l.i l.count l.seen l.j × (length l.one ≡ length l.initial.one) × (length l.two ≡ length l.initial.two)
