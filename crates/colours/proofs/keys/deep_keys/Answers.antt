-- `deep_keys` meets its contract: the keys below i are made.
-- Assumes nothing.
use Rattle.std.proofs.Common.{refl, ◌∙◌}
use Rattle.colours.proofs.KeyLaws.{keys-next, keys-done, key-deep, ready_with}
use Rattle.colours.proofs.keys.deep_keys.Goals as goal

pub loop-i-preserved : goal.loop-i-preserved
loop-i-preserved c = (
  keys-next _ _ _ _ _ _ _ _ c.requires.0.size c.requires.2 c.loop-i.invariant.0
      c.loop-i-test.true _
      (key-deep _ c.args.cells.now c.loop-i.i _ _ _ c.deep-s.ensures.0 c.code.ensures),
  ready_with _ _ _ _ _ _ c.loop-i.invariant.1 refl c.deep-s.auto.received
      c.deep-s.ensures.1,
  c.deep-s.auto.scratch ∙ c.loop-i.invariant.2,
  c.deep-s.auto.received ∙ c.loop-i.invariant.3,
)

pub returns : goal.returns
returns c = search keys-done
