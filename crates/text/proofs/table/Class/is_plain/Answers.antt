-- `text::table::Class::is_plain` meets its contract: by cases. Assumes nothing.
use Rattle.std.proofs.Common.{rules, true, false, ◌≡◌, leb, refl, inl, inr}
use Rattle.text.specs.declared.table.Class.{Class}
use Rattle.text.specs.declared.table.Class.TheVariants.{Small, Capital, Digit, Comma, LineFeed, Other}
use Rattle.text.specs.Bytes.{class_number}
use Rattle.text.proofs.table.Class.is_plain.Goals as goal

other-class : (k : Class) → (k ≡ Small → ⊥) → (k ≡ Capital → ⊥) → (k ≡ Digit → ⊥) → false ≡ leb (class_number k) 2
unfolding class_number
other-class Small s c d = absurd (s refl)
other-class Capital s c d = absurd (c refl)
other-class Digit s c d = absurd (d refl)
other-class Comma s c d = refl
other-class LineFeed s c d = refl
other-class Other s c d = refl

pub returns-in-Small : goal.returns-in-Small
unfolding class_number
returns-in-Small c = elim c.in-Small.is [ inl e ↦ rw e | inr r ↦ elim r [ inl e ↦ rw e | inr e ↦ rw e ] ]

pub returns-in_default : goal.returns-in_default
returns-in_default c = other-class c.args.self c.in_default.not-Small c.in_default.not-Capital c.in_default.not-Digit
