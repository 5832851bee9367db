-- `text::fields::number_of` meets its contract: a key of one digit, of two, or neither. Assumes nothing.
use mathlib.Core.Path.{◌≡◌, sym, ◌∙◌}
use mathlib.Core.Bool.{true, false}
use Prim.Native.Nat.{◌/◌, ◌%◌}
use native.Mathlib.Omega.{arith}
use Rattle.text.specs.Bytes.{between}
use Rattle.text.proofs.Bools.{and-false}
use Rattle.text.proofs.ClassLaws.{between-true}
use Rattle.text.proofs.Numbers.{number-one-digit, number-two-digits, number-no-digits}
use Rattle.text.proofs.fields.number_of.Goals as goal
use Rattle.text.proofs.fields.number_of.Goals.{Else-is_digit, Then-is_digit, Then-is_digit-2, Then-is_digit-3}

-- one digit
one : (c : Then-is_digit) → between 48 57 c.args.key ≡ true
one c = sym c.is_digit.ensures ∙ c.if-is_digit.true

pub overflow_sub-result : goal.overflow_sub-result
overflow_sub-result c = omega (arith, between-true 48 57 _ (one c))

pub overflow_cast-result : goal.overflow_cast-result
overflow_cast-result c = omega (arith, between-true 48 57 _ (one c))

pub returns-then-is_digit : goal.returns-then-is_digit
returns-then-is_digit c = sym (number-one-digit _ (one c))

-- not one digit; the first of two, the second of two
more : (c : Else-is_digit) → between 48 57 c.args.key ≡ false
more c = sym c.is_digit.ensures ∙ c.if-is_digit.false

tens : (c : Then-is_digit-2) → between 49 57 (c.args.key / 256) ≡ true
tens c = sym c.is_digit-2.ensures ∙ c.if-is_digit-2.true

ones : (c : Then-is_digit-3) → between 48 57 (c.args.key % 256) ≡ true
ones c = sym c.is_digit-then-is_digit-2.ensures ∙ c.if-is_digit-3.true

pub overflow_sub-result-then-is_digit-3 : goal.overflow_sub-result-then-is_digit-3
overflow_sub-result-then-is_digit-3 c = omega (arith, between-true 49 57 _ (tens c.before.before))

pub overflow_sub-result-then-is_digit-3-2 : goal.overflow_sub-result-then-is_digit-3-2
overflow_sub-result-then-is_digit-3-2 c = omega (arith, between-true 48 57 _ (ones c))

pub overflow_cast-result-then-is_digit-3 : goal.overflow_cast-result-then-is_digit-3
overflow_cast-result-then-is_digit-3 c = omega (arith, between-true 49 57 _ (tens c.before.before), between-true 48 57 _ (ones c))

pub returns-then-is_digit-3 : goal.returns-then-is_digit-3
returns-then-is_digit-3 c = sym (number-two-digits _ (more c.before.before.before.before) (tens c.before.before) (ones c))

pub returns-then-is_digit-2 : goal.returns-then-is_digit-2
returns-then-is_digit-2 c =
    let none : between 48 57 (c.args.key % 256) ≡ false =
    sym c.is_digit-then-is_digit-2.ensures ∙ c.if-is_digit-3.false in
    sym (number-no-digits _ (more c.before.before.before.before) (rw none (and-false (between 49 57 _))))

pub returns : goal.returns
returns c =
    let none : between 49 57 (c.args.key / 256) ≡ false =
    sym c.is_digit-2.ensures ∙ c.if-is_digit-2.false in
    sym (number-no-digits _ (more c.before.before) (rw none))
