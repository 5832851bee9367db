-- `goals::letters::find_letter` meets its contract: no letter passed is the one sought.
-- Assumes nothing.
use Rattle.std.proofs.Common.{◌≡◌, eqb, drop}
use Rattle.text.specs.Lists.{index_from}
use Rattle.goals.proofs.letters.find_letter.Given as goal

abbrev pub invariant-loop-i : goal.invariant-loop-i
invariant-loop-i l = index_from (eqb l.b) l.i (drop l.i l.letters) ≡ index_from (eqb l.b) 0 l.letters
