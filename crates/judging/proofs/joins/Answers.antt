-- `joins` meets its contract: cells for what the goal variables become are lent.
-- Assumes nothing.
use mathlib.Core.Path.{sym}
use Rattle.judging.proofs.JoinLaws.{lent_length}
use Rattle.judging.proofs.joins.Goals as goal

pub slice_bounds-judge-end : goal.slice_bounds-judge-end
slice_bounds-judge-end c =
    sym (lent_length _ c.requires.0.variables)

pub slice_bounds-judge-end-2 : goal.slice_bounds-judge-end-2
slice_bounds-judge-end-2 c =
    sym (lent_length _ c.requires.0.variables)

pub judge-requires : goal.judge-requires
judge-requires c =
    record {
      overlapping = c.requires.0;
      first-bound = lent_length _ c.requires.0.variables;
      first-room = c.requires.1;
      second-bound = lent_length _ c.requires.0.variables;
      second-room = c.requires.2;
    }
