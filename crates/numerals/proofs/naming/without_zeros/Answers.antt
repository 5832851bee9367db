-- `numerals::naming::without_zeros` meets its contract: the digits are seen from the last one on.
-- Assumes nothing.
use native.Mathlib.Omega.{arith}
use Rattle.numerals.proofs.NumeralLaws.{unit-some, unit-fits, rest-fits, kept-fits, zeros-fit, zeros-next}
use Rattle.numerals.proofs.NumeralLaws.{seen_start, seen-zero, seen-digit, seen_all}
use Rattle.numerals.proofs.naming.without_zeros.Goals as goal

pub loop-rest-init : goal.loop-rest-init
loop-rest-init c = (λ f h e. seen_start f _ h e, omega arith, omega arith, omega arith)

pub overflow_mul-unit : goal.overflow_mul-unit
overflow_mul-unit c =
    record { fits = omega (arith, unit-fits _ _ _ c.loop-rest.invariant.1 c.loop-rest-test.true) }

pub overflow_add-zeros : goal.overflow_add-zeros
overflow_add-zeros c = record { fits = omega (arith, c.loop-rest.invariant.3) }

pub loop-rest-preserved-then-b-eq48 : goal.loop-rest-preserved-then-b-eq48
loop-rest-preserved-then-b-eq48 c =
    let inv = c.loop-rest.invariant in
    let some = c.loop-rest-test.true in
    let fits = unit-fits _ _ _ inv.1 some in (
      λ f h e. seen-zero f _ _ _ _ (inv.0 f h e) some c.if-b-eq48.true,
      omega (arith, kept-fits _ _ _ inv.1),
      zeros-next _ _ inv.2,
      zeros-fit _ _ _ inv.2 fits (omega arith),
    )

pub overflow_mul-kept : goal.overflow_mul-kept
overflow_mul-kept c =
    let inv = c.loop-rest.invariant in
    record { fits = omega (arith, rest-fits _ _ _ _ inv.1 inv.2) }

pub overflow_mul-kept-else-b-eq48 : goal.overflow_mul-kept-else-b-eq48
overflow_mul-kept-else-b-eq48 c = record { fits = omega (arith, kept-fits _ _ _ c.loop-rest.invariant.1) }

pub overflow_sub-kept : goal.overflow_sub-kept
overflow_sub-kept c = kept-fits _ _ _ c.loop-rest.invariant.1

pub loop-rest-preserved : goal.loop-rest-preserved
loop-rest-preserved c =
    let inv = c.loop-rest.invariant in (
      λ f h e. seen-digit f _ _ _ _ (inv.0 f h e) c.loop-rest-test.true _ h e c.if-b-eq48.false,
      omega (arith, kept-fits _ _ _ inv.1),
      unit-some _ _ inv.2,
      omega arith,
    )

pub returns : goal.returns
returns c =
    let inv = c.loop-rest.invariant in
    (λ f h n e. seen_all f _ _ _ _ (inv.0 f h e) h n c.loop-rest-test.false, inv.3)
