-- `is_concerned` meets its contract: the heads from i on, where the cursor stands, are concerned where all are.
-- Assumes nothing.
use Rattle.std.proofs.Common.{◌+◌, arith, refl}
use Rattle.tallies.proofs.ComeLaws.{meeting-start, meeting-found, meeting-next, meeting-end}
use Rattle.tallies.proofs.coming.is_concerned.Goals as goal

pub loop-at-init : goal.loop-at-init
loop-at-init c = (0, refl, meeting-start _ _ _ _)

pub returns-then-v-last_at : goal.returns-then-v-last_at
returns-then-v-last_at c =
    let (i, e, w) = c.loop-at.invariant in
    meeting-found _ _ _ _ i w (omega (arith, e, c.loop-at-test.true)) _ (rw e at c.last_at.ensures) c.if-v-last_at.true

pub loop-at-preserved : goal.loop-at-preserved
loop-at-preserved c =
    let (i, e, w) = c.loop-at.invariant in (
      i + 1,
      omega (arith, e),
      meeting-next _ _ _ _ i w (omega (arith, e, c.loop-at-test.true)) _ (rw e at c.last_at.ensures) c.if-v-last_at.false,
    )

pub returns : goal.returns
returns c =
    let (i, e, w) = c.loop-at.invariant in
    meeting-end _ _ _ _ i w (omega (arith, e, c.loop-at-test.false))
