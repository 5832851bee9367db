-- `walk_all` meets its contract: the overlaps of rule i and the later first rules are left.
-- Assumes nothing.
use Rattle.std.proofs.Common.{◌≡◌, length}
use Rattle.critical.proofs.TableLaws.{Table}
use Rattle.critical.proofs.walking.walk_all.Given as goal

abbrev pub invariant-loop-i : goal.invariant-loop-i
invariant-loop-i l =
    Table l.rules l.n l.seen l.i × (length l.one ≡ length l.initial.one) × (length l.two ≡ length l.initial.two)
