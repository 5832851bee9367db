-- `text::fields::is_digit` meets its contract. Assumes nothing.
use Rattle.std.proofs.Common.{rules, arith}
use Rattle.std.proofs.lemmas.Grind.{common_steps}
use Rattle.text.specs.Bytes.{between}
use Rattle.text.proofs.fields.is_digit.Goals as goal

pub returns-then-least-b : goal.returns-then-least-b
unfolding between
returns-then-least-b c = grind (arith, common_steps)

pub returns-else-least-b : goal.returns-else-least-b
unfolding between
returns-else-least-b c = grind (arith, common_steps)
