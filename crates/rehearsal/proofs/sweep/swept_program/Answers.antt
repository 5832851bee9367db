-- `rehearsal::sweep::swept_program` meets its contract. Assumes nothing.
use Rattle.text.specs.Bytes.{ascii}
use Rattle.rehearsal.specs.Sweep.{swept_program}
use Rattle.rehearsal.proofs.sweep.swept_program.Goals as goal

pub returns : goal.returns
unfolding swept_program ascii
returns c = c.met.ensures
