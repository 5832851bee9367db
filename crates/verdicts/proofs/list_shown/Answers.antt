-- `verdicts::list_shown` meets its contract: what it writes is the listing. Assumes nothing.
use Rattle.std.proofs.Common.{rules}
use Rattle.verdicts.proofs.list_shown.Goals as goal

pub returns : goal.returns
returns c =
    c.list_by.ensures _ (record { writes = λ p q n e. search rules }) (λ t. absurd cc)
