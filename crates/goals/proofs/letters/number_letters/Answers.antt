-- `goals::letters::number_letters` meets its contract: one term behind the other.
-- Assumes nothing.
use Rattle.goals.proofs.GoalLetters.{row_read}
use Rattle.goals.proofs.letters.number_letters.Goals as goal

pub returns : goal.returns
returns c =
    row_read _ _ _ _ _ _ _ _ _ _ _ c.requires.3 c.number_letter-a.ensures
    c.number_letter-b.ensures c.number_letter-c.ensures
    c.number_letter-d.ensures
