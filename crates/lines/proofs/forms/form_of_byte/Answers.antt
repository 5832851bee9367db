-- `lines::forms::form_of_byte` meets its contract, at each letter and at all other bytes. Assumes nothing.
use native.Mathlib.Omega.{arith}
use Rattle.std.proofs.lemmas.Bool.Decides.{nat_tests}
use Rattle.syntax.specs.Forms.{form_of_byte}
use Rattle.lines.specs.Read.{form_meant}
use Rattle.lines.proofs.Letters.{form-none}
use Rattle.lines.proofs.forms.form_of_byte.Goals as goal

pub returns-in-75 : goal.returns-in-75
unfolding form_of_byte form_meant
returns-in-75 c = rw c.in-75.is

pub returns-in-82 : goal.returns-in-82
unfolding form_of_byte form_meant
returns-in-82 c = rw c.in-82.is

pub returns-in-74 : goal.returns-in-74
unfolding form_of_byte form_meant
returns-in-74 c = rw c.in-74.is

pub returns-in-72 : goal.returns-in-72
unfolding form_of_byte form_meant
returns-in-72 c = rw c.in-72.is

pub returns-in-66 : goal.returns-in-66
unfolding form_of_byte form_meant
returns-in-66 c = rw c.in-66.is

pub returns-in-69 : goal.returns-in-69
unfolding form_of_byte form_meant
returns-in-69 c = rw c.in-69.is

pub returns-in-71 : goal.returns-in-71
unfolding form_of_byte form_meant
returns-in-71 c = rw c.in-71.is

pub returns-in-97-to-122 : goal.returns-in-97-to-122
unfolding form_meant
returns-in-97-to-122 c = grind (arith, form-none)

pub returns-in_default : goal.returns-in_default
unfolding form_meant
returns-in_default c = grind (arith, form-none)

pub returns-in_default-2 : goal.returns-in_default-2
unfolding form_meant
returns-in_default-2 c = grind (arith, form-none)

pub returns-in_default-3 : goal.returns-in_default-3
unfolding form_meant
returns-in_default-3 c = grind (arith, form-none)

pub returns-in-65-to-90 : goal.returns-in-65-to-90
unfolding form_of_byte form_meant
returns-in-65-to-90 c = grind (arith, nat_tests)

pub returns-in-65-to-90-2 : goal.returns-in-65-to-90-2
unfolding form_meant
returns-in-65-to-90-2 c = grind (arith, form-none)
