-- `give` meets its contract: its signature goes to its terms.
-- Assumes nothing.
use Rattle.colours.proofs.ColourLaws.{give-one}
use Rattle.colours.proofs.colours.give.Goals as goal

pub returns : goal.returns
returns c = search give-one
