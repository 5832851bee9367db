-- `digest_of` meets its contract: answers by a table are what the table stands for.
-- Assumes nothing.
use Rattle.std.proofs.Common.{rules}
use Rattle.colours.proofs.RoundLaws.{digest-table}
use Rattle.colours.proofs.colours.digest_of.Goals as goal

pub returns : goal.returns
returns c = digest-table _ _ _ _ c.requires.1 (λ x r a. search rules) c.digest_by.ensures
