-- `lines::forms::form_of` meets its contract. Assumes nothing.
use mathlib.Core.Path.{sym, ap, ◌∙◌}
use Prim.Native.Nat.{ℕ, ◌+◌}
use native.Mathlib.Omega.{arith}
use Rattle.syntax.specs.Forms.{form_of_byte}
use Rattle.lines.specs.Read.{form_meant}
use Rattle.lines.proofs.Letters.{form-letter, form-word}
use Rattle.lines.proofs.forms.form_of.Goals as goal

pub returns-then-key-lt28 : goal.returns-then-key-lt28
returns-then-key-lt28 c = λ f e. c.form_of_byte.ensures ∙ ap (λ (k : ℕ). form_of_byte (63 + k)) e ∙ form-letter f (omega (arith, e))

pub returns : goal.returns
unfolding form_meant
returns c = λ f e. sym (form-word f (omega (arith, e)))
