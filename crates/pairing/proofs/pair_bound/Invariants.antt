-- `pairing::pair_bound` meets its contract. Assumes nothing.
use Rattle.pairing.proofs.PairLaws.{Binding}
use Rattle.pairing.proofs.pair_bound.Given as goal

abbrev pub invariant-loop-i : goal.invariant-loop-i
invariant-loop-i l = Binding l.a l.b l.initial.forth l.initial.back l.forth l.back l.i
