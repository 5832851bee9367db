-- `relabel` meets its contract: the constraints below i are relabelled.
-- Assumes nothing.
use Rattle.colours.specs.Keys.{class_of}
use Rattle.colours.proofs.KeyLaws.{relabel-next, relabel-done}
use Rattle.colours.proofs.keys.relabel.Goals as goal

pub loop-i-preserved : goal.loop-i-preserved
unfolding class_of
loop-i-preserved c =
    relabel-next _ _ _ _ _ c.requires.0 c.loop-i.invariant c.loop-i-test.true _ c.find_key-k.ensures.0

pub returns : goal.returns
returns c = search relabel-done
