-- `start_colour` meets its contract: a constant is known by its number.
-- Assumes nothing.
use Rattle.std.proofs.Common.{sym, ◌∙◌}
use Rattle.colours.proofs.RoundLaws.{start-cell}
use Rattle.colours.proofs.colours.start_colour.Goals as goal

pub returns : goal.returns
returns c = rw c.wide.ensures.0 at c.min.ensures ∙ sym (start-cell c.args.x)
