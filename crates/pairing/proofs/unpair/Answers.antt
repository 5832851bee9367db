-- `pairing::unpair` meets its contract. Assumes nothing.
use Rattle.pairing.proofs.PairLaws.{clearing-made, clearing-kept, clearing-end}
use Rattle.pairing.proofs.unpair.Goals as goal

pub returns : goal.returns
returns c =
    clearing-end _ _ _ _ _ _ _ _ c.requires.0 c.requires.1 c.loop-i.invariant c.loop-i-test.false

pub loop-i-preserved-then-fresh-i : goal.loop-i-preserved-then-fresh-i
loop-i-preserved-then-fresh-i c = search clearing-made

pub loop-i-preserved : goal.loop-i-preserved
loop-i-preserved c = search clearing-kept
