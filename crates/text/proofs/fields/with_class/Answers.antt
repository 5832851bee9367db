-- `text::fields::with_class` meets its contract: by cases. Assumes nothing.
use Rattle.std.proofs.Common.{false, ◌≡◌, eqb, refl}
use Rattle.text.specs.declared.table.Class.{Class}
use Rattle.text.specs.declared.table.Class.TheVariants.{Small, Capital, Digit, Comma, LineFeed, Other}
use Rattle.text.specs.Bytes.{class_number}
use Rattle.text.proofs.fields.with_class.Goals as goal

no-capital : (k : Class) → (k ≡ Capital → ⊥) → eqb (class_number k) 1 ≡ false
unfolding class_number
no-capital Small c = refl
no-capital Capital c = absurd (c refl)
no-capital Digit c = refl
no-capital Comma c = refl
no-capital LineFeed c = refl
no-capital Other c = refl

pub returns-in-Capital : goal.returns-in-Capital
unfolding class_number
returns-in-Capital c = rw (c.if-capital.false, c.in-Capital.is)

pub returns-in_default : goal.returns-in_default
returns-in_default c = rw (c.if-capital.false, no-capital c.args.class c.in_default.not-Capital)
