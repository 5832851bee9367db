-- `pairing::unpair` meets its contract. Assumes nothing.
use Rattle.pairing.proofs.PairLaws.{Clearing}
use Rattle.pairing.proofs.unpair.Given as goal

abbrev pub invariant-loop-i : goal.invariant-loop-i
invariant-loop-i l = Clearing l.a l.b l.initial.forth l.initial.back l.forth l.back l.fresh l.i
