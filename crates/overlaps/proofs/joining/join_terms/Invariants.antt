-- `join_terms` meets its contract: the columns from c on, in the cells so far, give the answer for all of them.
-- Assumes nothing.
use mathlib.Core.Path.{◌≡◌}
use lib.ListN.{length}
use Rattle.overlaps.proofs.TermLaws.{Joining}
use Rattle.overlaps.proofs.joining.join_terms.Given as goal

abbrev pub invariant-loop-c : goal.invariant-loop-c
invariant-loop-c l =
    Joining l.initial.cells l.a l.b l.cells l.c × (length l.equations ≡ 0) × (length l.bound ≡ 0)
