-- `rehearsal::put_answer` meets its contract. Assumes nothing.
use Rattle.rehearsal.proofs.AnswerLaws.{run-answered, check-answered}
use Rattle.rehearsal.proofs.put_answer.Goals as goal

pub returns-then-with_goal : goal.returns-then-with_goal
returns-then-with_goal c = search run-answered

pub returns-else-with_goal : goal.returns-else-with_goal
returns-else-with_goal c = search check-answered
