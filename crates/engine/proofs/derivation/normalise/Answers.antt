-- `normalise` meets its contract: the state so far has the end of the state at the start. A weighing bounds the firings.
-- Assumes nothing.
use Rattle.engine.proofs.HoldLaws.{holding-start, holding-failed, holding-room, holding-live}
use Rattle.engine.proofs.HoldLaws.{holding-rests, holding-less, holding-next}
use Rattle.engine.proofs.derivation.normalise.Goals as goal

pub loop-step-init : goal.loop-step-init
loop-step-init c = holding-start _ _ _ _ _ _ c.requires.0 _ c.requires.1

pub make_room-at-requires : goal.make_room-at-requires
make_room-at-requires c =
    holding-room _ _ _ _ _ _ c.requires.0 _ _ _ _ _ _ _ _ _ _ c.loop-step.invariant

pub advance-requires : goal.advance-requires
advance-requires c =
    holding-live _ _ _ _ _ _ c.requires.0 _ _ _ _ _ _ _ _ _ _
    c.loop-step.invariant _ _ c.make_room-at.auto.cells c.make_room-at.ensures

pub returns-in_default : goal.returns-in_default
returns-in_default c =
    holding-rests _ _ _ _ _ _ c.requires.0 _ _ _ _ _ _ _ _ _ _
    c.loop-step.invariant _ _ c.make_room-at.auto.cells c.make_room-at.ensures
    _ _ c.advance.auto.cells c.in_default.ensures _ c.move_down.ensures

pub returns-in_default-count : goal.returns-in_default-count
returns-in_default-count c =
    let fired = rw c.in_default-count.is at c.in-Some.ensures in
    holding-failed _ _ _ _ _ _ c.requires.0 _ _ _ _ _ _ _ _ _ _
    c.loop-step.invariant _ _ c.make_room-at.auto.cells c.make_room-at.ensures
    _ _ c.advance.auto.cells _ fired.0 _

pub loop-step-smaller : goal.loop-step-smaller
loop-step-smaller c =
    let fired = rw c.in-Some-count.is at c.in-Some.ensures in
    holding-less _ _ _ _ _ _ c.requires.0 _ _ _ _ _ _ _ _ _ _
    c.loop-step.invariant _ _ c.make_room-at.auto.cells c.make_room-at.ensures
    _ _ c.advance.auto.cells _ _ _ _ _ _ fired

pub loop-step-preserved : goal.loop-step-preserved
loop-step-preserved c =
    let fired = rw c.in-Some-count.is at c.in-Some.ensures in
    holding-next _ _ _ _ _ _ c.requires.0 _ _ _ _ _ _ _ _ _ _
    c.loop-step.invariant _ _ c.make_room-at.auto.cells c.make_room-at.ensures
    _ _ c.advance.auto.cells _ _ _ _ _ _ fired
