-- `pairing::pair_rows` meets its contract. Assumes nothing.
use Rattle.pairing.proofs.PairLaws.{Columns}
use Rattle.pairing.proofs.pair_rows.Given as goal

abbrev pub invariant-loop-i : goal.invariant-loop-i
invariant-loop-i l = Columns l.a l.b l.initial.forth l.initial.back l.forth l.back l.fresh l.i
