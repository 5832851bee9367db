-- `match_terms` meets its contract: the columns from i on, under the bindings so far, give the answer for all columns.
-- Assumes nothing.
use Rattle.fitting.proofs.MatchLaws.{Walk}
use Rattle.fitting.proofs.matching.match_terms.Given as goal

abbrev pub invariant-loop-i : goal.invariant-loop-i
invariant-loop-i l = Walk l.head l.constraint l.initial.bindings l.bindings l.i
