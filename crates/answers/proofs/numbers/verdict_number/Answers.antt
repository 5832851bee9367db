-- `answers::verdict_number` meets its contract: the number of each verdict. Assumes nothing.
use Rattle.std.proofs.Common.{arith, ap, Ok}
use Rattle.answers.proofs.NumberLaws.{number_passed, number-failed, failed-few}
use Rattle.answers.proofs.numbers.verdict_number.Goals as goal

pub returns-in-Confluent : goal.returns-in-Confluent
returns-in-Confluent c = number_passed (ap Ok c.in-Confluent.is)

pub returns-in-Unjoined : goal.returns-in-Unjoined
returns-in-Unjoined c = number-failed (ap Ok c.in-Unjoined.is)

pub overflow_add-result : goal.overflow_add-result
overflow_add-result c = omega (arith, failed-few (ap Ok c.in-Unjoined.is) c.requires)
