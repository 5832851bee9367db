-- `clip` meets its contract: the smaller of a cell and the limit.
-- Assumes nothing.
use Rattle.std.proofs.Common.{sym, ◌∙◌}
use Rattle.colours.proofs.FirstLaws.{clip-cell}
use Rattle.colours.proofs.first.clip.Goals as goal

pub returns : goal.returns
returns c = c.min.ensures ∙ sym (clip-cell c.args.x c.args.limit)
