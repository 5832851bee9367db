-- `roketuma::refusal_number` meets its contract. Assumes nothing.
use native.Mathlib.Omega.{arith}
use Rattle.answers.proofs.ReplyLaws.{byte-few}
use Rattle.answers.proofs.numbers.refusal_number.Goals as goal

pub overflow_mul-result-2 : goal.overflow_mul-result-2
overflow_mul-result-2 c = omega (arith, c.name_byte.ensures, byte-few c.args.refusal.text)

pub overflow_add-result : goal.overflow_add-result
overflow_add-result c = omega (arith, c.name_byte.ensures, byte-few c.args.refusal.text)

pub overflow_add-result-2 : goal.overflow_add-result-2
overflow_add-result-2 c = omega (arith, c.name_byte.ensures, byte-few c.args.refusal.text)

pub returns : goal.returns
returns c = rw c.name_byte.ensures
