-- `mark` meets its contract: the first i constraints are marked, and the tally is raised by them.
-- Assumes nothing.
use Prim.Native.Nat.{◌+◌, ◌*◌, ◌<◌}
use native.Mathlib.Omega.{arith}
use mathlib.Core.Path.{refl}
use lib.ListN.{length}
use Rattle.tallies.proofs.CountLaws.{raising-start, raising-there, raising-room, raising-next, raising-end}
use Rattle.tallies.proofs.ComeLaws.{marking-start, marking-next, marking-other, marking-end}
use Rattle.tallies.proofs.coming.mark.Goals as goal
use Rattle.tallies.proofs.coming.mark.Goals.{then-symbol-last, else-symbol-last}

pub loop-i-init : goal.loop-i-init
loop-i-init c = (marking-start _ _ _, raising-start _ _)

pub bounds-tally-symbol : goal.bounds-tally-symbol
bounds-tally-symbol c =
    raising-there _ _ _ _ c.loop-i.invariant.1 _ c.requires.0 c.loop-i-test.true _ c.wide-symbol.ensures.0

pub overflow_add-tally : goal.overflow_add-tally
overflow_add-tally c =
    omega (
      arith,
      raising-room _ _ _ _ c.loop-i.invariant.1 _ c.requires.0 c.loop-i-test.true _ c.wide-symbol.ensures.0,
    )

pub bounds-tally-symbol-in-loop-i : goal.bounds-tally-symbol-in-loop-i
bounds-tally-symbol-in-loop-i c =
    raising-there _ _ _ _ c.loop-i.invariant.1 _ c.requires.0 c.loop-i-test.true _ c.wide-symbol.ensures.0

pub loop-i-preserved : goal.loop-i-preserved
loop-i-preserved c =
    let inv = c.loop-i.invariant in (
      elim c.if-symbol-last.branch [
        | then-symbol-last w ↦ marking-next _ _ _ _ _ inv.0 (omega (arith, c.loop-i-test.true, c.requires.0.cells-size))
            _ _ c.wide-symbol.ensures.0 w.if-symbol-last.true w.last-is
        | else-symbol-last w ↦ rw w.last-is (marking-other _ _ _ _ _ inv.0
            (omega (arith, c.loop-i-test.true, c.requires.0.cells-size)) _ c.wide-symbol.ensures.0 w.if-symbol-last.false)
      ],
      raising-next _ _ _ _ inv.1 _ c.requires.0 c.loop-i-test.true
          _ c.wide-symbol.ensures.0 _ refl,
    )

pub returns : goal.returns
returns c =
    let all : length c.args.body.now < 5 * c.loop-i.i + 5 =
    omega (arith, c.loop-i-test.false, c.requires.0.cells-size) in
    (marking-end _ _ _ _ _ c.loop-i.invariant.0 all, raising-end _ _ _ _ c.loop-i.invariant.1 all)
