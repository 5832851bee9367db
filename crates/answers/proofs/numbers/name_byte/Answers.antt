-- `roketuma::name_byte` meets its contract. Assumes nothing.
use Rattle.answers.specs.Answers.{name_byte}
use Rattle.answers.proofs.numbers.name_byte.Goals as goal

pub returns-in-S : goal.returns-in-S
unfolding name_byte
returns-in-S c = rw c.in-S.is

pub returns-in-G : goal.returns-in-G
unfolding name_byte
returns-in-G c = rw c.in-G.is
