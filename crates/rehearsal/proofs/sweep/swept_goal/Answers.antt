-- `rehearsal::sweep::swept_goal` meets its contract. Assumes nothing.
use Rattle.text.specs.Bytes.{ascii}
use Rattle.rehearsal.specs.Sweep.{swept_goal, goal_program}
use Rattle.rehearsal.proofs.sweep.swept_goal.Goals as goal

pub returns : goal.returns
unfolding swept_goal goal_program ascii
returns c = c.met.ensures
