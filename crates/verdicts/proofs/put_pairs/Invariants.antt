-- `verdicts::put_pairs` meets its contract: the lines of the heads before i are written. Assumes nothing.
use Rattle.verdicts.specs.Verdicts.{pair_lines}
use Rattle.listing.proofs.WriteLaws.{Writing}
use Rattle.verdicts.proofs.CheckLaws.{pairs_from}
use Rattle.verdicts.proofs.put_pairs.Given as goal

abbrev pub invariant-loop-i : goal.invariant-loop-i
invariant-loop-i l =
    Writing (pair_lines 1 l.partners) l.at l.initial.out l.out l.end (pairs_from l.partners l.i)
