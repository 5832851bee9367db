-- `first_digest` meets its contract: answers by clipped cells.
-- Assumes nothing.
use Rattle.std.proofs.Common.{rules}
use Rattle.colours.proofs.FirstLaws.{first-told}
use Rattle.colours.proofs.first.first_digest.Goals as goal

pub returns : goal.returns
returns c = first-told _ _ _ _ (λ x r a. search rules) c.digest_by.ensures
