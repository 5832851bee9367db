-- `pairing::pair_bound` meets its contract. Assumes nothing.
use Rattle.pairing.proofs.PairLaws.{bound-apart, bound-next, bound-done}
use Rattle.pairing.proofs.pair_bound.Goals as goal

pub returns-then-is_none : goal.returns-then-is_none
returns-then-is_none c =
    bound-apart _ _ _ _ _ _ _ c.requires.2 c.loop-i.invariant c.loop-i-test.true _ _ _ c.pair.ensures c.if-is_none.ensures

pub loop-i-preserved : goal.loop-i-preserved
loop-i-preserved c =
    bound-next _ _ _ _ _ _ _ c.requires.2 c.loop-i.invariant c.loop-i-test.true _ _ _ c.pair.ensures c.if-is_none.ensures
    c.pair.auto.forth c.pair.auto.back

pub returns : goal.returns
returns c = search bound-done
