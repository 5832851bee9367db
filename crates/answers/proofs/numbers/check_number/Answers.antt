-- `answers::check_number` meets its contract: the number of each form of answer. Assumes nothing.
use Rattle.answers.proofs.NumberLaws.{number-refused}
use Rattle.answers.proofs.numbers.check_number.Goals as goal

pub returns-in-Err : goal.returns-in-Err
returns-in-Err c = number-refused c.in-Err.is c.refusal_number.ensures
