-- `sign` meets its contract: answers by a table are what the table stands for.
-- Assumes nothing.
use Rattle.std.proofs.Common.{rules}
use Rattle.colours.proofs.ColourLaws.{sign-table}
use Rattle.colours.proofs.colours.sign.Goals as goal

pub returns : goal.returns
returns c = sign-table _ _ _ _ _ c.requires (λ x r a. search rules) c.sign_by.ensures
