-- `raise` meets its contract: the tally is raised by the first i constraints.
-- Assumes nothing.
use native.Mathlib.Omega.{arith}
use mathlib.Core.Path.{refl}
use Rattle.tallies.proofs.CountLaws.{raising-start, raising-there, raising-room, raising-next, raising-end}
use Rattle.tallies.proofs.counting.raise.Goals as goal

pub loop-i-init : goal.loop-i-init
loop-i-init c = raising-start _ _

pub bounds-tally-s : goal.bounds-tally-s
bounds-tally-s c =
    raising-there _ _ _ _ c.loop-i.invariant _ c.requires c.loop-i-test.true _ c.wide-s.ensures.0

pub overflow_add-tally : goal.overflow_add-tally
overflow_add-tally c =
    omega (
      arith,
      raising-room _ _ _ _ c.loop-i.invariant _ c.requires c.loop-i-test.true _ c.wide-s.ensures.0,
    )

pub bounds-tally-s-in-loop-i : goal.bounds-tally-s-in-loop-i
bounds-tally-s-in-loop-i c =
    raising-there _ _ _ _ c.loop-i.invariant _ c.requires c.loop-i-test.true _ c.wide-s.ensures.0

pub loop-i-preserved : goal.loop-i-preserved
loop-i-preserved c =
    raising-next _ _ _ _ c.loop-i.invariant _ c.requires c.loop-i-test.true _ c.wide-s.ensures.0
    _ refl

pub returns : goal.returns
returns c =
    raising-end _ _ _ _ c.loop-i.invariant (omega (arith, c.loop-i-test.false, c.requires.cells-size))
