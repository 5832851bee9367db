-- `advance` meets its contract: the choice, its firing, and what is known then.
-- Assumes nothing.
use native.Mathlib.Omega.{arith}
use mathlib.Core.Path.{refl, sym}
use lib.ListN.{replicate}
use Rattle.engine.proofs.StepLaws.{step-lent, step-chooses, step-there, step-rests, step-keeps-failed, step_row}
use Rattle.engine.proofs.StepLaws.{step-fires, step-moves, taken-few, step-remembers, step-few, step_keeps}
use Rattle.engine.proofs.derivation.advance.Goals as goal

pub slice_bounds-choose-end-2 : goal.slice_bounds-choose-end-2
slice_bounds-choose-end-2 c =
    step-lent _ _ _ _ _ c.requires.0

pub choose-requires : goal.choose-requires
choose-requires c =
    step-chooses _ _ _ _ _ c.requires.0 _ _ _ c.requires.1 c.requires.2 _ (omega arith)
    (replicate 4 0) (replicate 26 0) refl refl _ c.requires.3

pub returns-in_err-number : goal.returns-in_err-number
returns-in_err-number c = rw c.from_residual.ensures (step-rests _ _ _ _ _ c.requires.0 _ _ c.in_err-number.ensures.0 _)

pub overflow_mul-a : goal.overflow_mul-a
overflow_mul-a c = omega (
  arith,
  step_row _ _ _ _ _ c.requires.0 _ _ _ c.in_ok-number.ensures.0,
)

pub overflow_add-b : goal.overflow_add-b
overflow_add-b c = omega (
  arith,
  step_row _ _ _ _ _ c.requires.0 _ _ _ c.in_ok-number.ensures.0,
)

pub offset_bounds-rules-a : goal.offset_bounds-rules-a
offset_bounds-rules-a c = omega (
  arith,
  step_row _ _ _ _ _ c.requires.0 _ _ _ c.in_ok-number.ensures.0,
)

pub slice_bounds-fire_front-end : goal.slice_bounds-fire_front-end
slice_bounds-fire_front-end c =
    sym c.in_ok-number.ensures.0.positions-size

pub slice_bounds-fire_front-end-2 : goal.slice_bounds-fire_front-end-2
slice_bounds-fire_front-end-2 c =
    sym c.in_ok-number.ensures.0.bindings-size

pub fire_front-after-requires : goal.fire_front-after-requires
fire_front-after-requires c =
    step-fires _ _ _ _ _ c.requires.0 _ _ _ c.in_ok-number.ensures.0

pub overflow_add-removed : goal.overflow_add-removed
overflow_add-removed c =
    let few' = taken-few _ _ _ _ _ c.requires.0 _ _ _ c.in_ok-number.ensures.0
    _ _ _ _ _ c.fire_front-after.ensures.0 _ _ c.requires.2 c.fire_front-after.ensures.2 in
    omega (arith, c.requires.2, few')

pub remember-requires : goal.remember-requires
remember-requires c =
    let fired' = rw c.in-Some.is at c.fire_front-after.ensures in
    step-remembers _ _ _ _ _ c.requires.0 _ _ _ c.in_ok-number.ensures.0
    _ _ _ _ _ fired'.0 _ _ c.requires.2 fired'.2 _ c.requires.3

pub overflow_add-removed-in-Some : goal.overflow_add-removed-in-Some
overflow_add-removed-in-Some c =
    let fired' = rw c.in-Some.is at c.fire_front-after.ensures in
    let few' = step-few _ _ _ _ _ c.requires.0 _ _ _ c.in_ok-number.ensures.0
    _ _ _ _ _ fired'.0 _ _ c.requires.2 fired'.2 in
    omega (arith, c.requires.2, few')

pub returns-in-None : goal.returns-in-None
returns-in-None c =
    let fired' = rw c.in-None.is at c.fire_front-after.ensures in (
      step-moves _ _ _ _ _ c.requires.0 _ _ _ c.in_ok-number.ensures.0 _ _ _ _ _ fired'.0,
      step-keeps-failed _ _ _ _ _ c.requires.0 _ _ _ _ _ _,
      fired'.1,
      step-few _ _ _ _ _ c.requires.0 _ _ _ c.in_ok-number.ensures.0 _ _ _ _ _ fired'.0
          _ _ c.requires.2 fired'.2,
    )

pub returns-in-Some : goal.returns-in-Some
returns-in-Some c =
    let fired' = rw c.in-Some.is at c.fire_front-after.ensures in (
      step-moves _ _ _ _ _ c.requires.0 _ _ _ c.in_ok-number.ensures.0 _ _ _ _ _ fired'.0,
      step_keeps _ _ _ _ _ c.requires.0 _ _ _ c.in_ok-number.ensures.0 _ _ _ _ _ fired'.0
          _ _ c.requires.2 fired'.2 _ _ _ _ _ _ c.in_ok-number.ensures.1 c.remember.ensures
          (step-there _ _ _ _ _ c.requires.0 _ _ _ c.fire_front-after.auto.cells fired'.1)
          c.requires.3 c.remember.auto.tally,
      fired'.1,
      step-few _ _ _ _ _ c.requires.0 _ _ _ c.in_ok-number.ensures.0 _ _ _ _ _ fired'.0
          _ _ c.requires.2 fired'.2,
    )
