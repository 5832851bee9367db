-- `text::fields::note` meets its contract: behind the last place nothing is set. Assumes nothing.
use mathlib.Core.Path.{sym}
use native.Mathlib.Omega.{arith}
use lib.Seq.{set_out}
use Rattle.text.proofs.fields.note.Goals as goal

pub returns-else-i-lt8 : goal.returns-else-i-lt8
returns-else-i-lt8 c = (sym (set_out _ _ _ (omega arith)), sym (set_out _ _ _ (omega arith)))
