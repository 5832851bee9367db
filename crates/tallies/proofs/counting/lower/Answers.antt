-- `lower` meets its contract: the tally is lowered by the first i constraints.
-- Assumes nothing.
use Rattle.std.proofs.Common.{arith}
use Rattle.tallies.proofs.CountLaws.{lowering-start, lowering-next, lowering-none, lowering-end}
use Rattle.tallies.proofs.counting.lower.Goals as goal
use Rattle.tallies.proofs.counting.lower.Goals.{then-s-tally, else-s-tally}

pub loop-i-init : goal.loop-i-init
loop-i-init c = lowering-start _ _

pub loop-i-preserved : goal.loop-i-preserved
loop-i-preserved c =
    elim c.if-s-tally.branch [
      | then-s-tally w ↦ lowering-next _ _ _ _ c.loop-i.invariant (omega (arith, c.loop-i-test.true, c.requires))
          _ c.wide-s.ensures.0 _ _ w.if-s-tally.true w.one_less.ensures w.tally-is
      | else-s-tally w ↦ rw w.tally-is (lowering-none _ _ _ _ c.loop-i.invariant
          (omega (arith, c.loop-i-test.true, c.requires)) _ c.wide-s.ensures.0 w.if-s-tally.false)
    ]

pub returns : goal.returns
returns c =
    lowering-end _ _ _ _ c.loop-i.invariant
    (omega (arith, c.loop-i-test.false, c.requires))
