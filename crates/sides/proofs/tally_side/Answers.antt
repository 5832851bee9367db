-- `tally_side` meets its contract: the goal enters an empty store, and the rule fires.
-- Assumes nothing.
use Rattle.sides.proofs.TallyLaws.{goal-raises, row-exchanges, row-exchanged}
use Rattle.sides.proofs.tally_side.Goals as goal

pub raise-requires : goal.raise-requires
raise-requires c =
    goal-raises _ _ _ _ c.requires

pub exchange-requires : goal.exchange-requires
exchange-requires c =
    row-exchanges _ _ _ _ c.requires _ c.raise.auto.tally c.raise.ensures

pub returns : goal.returns
returns c =
    row-exchanged _ _ _ _ c.requires _ c.raise.auto.tally c.raise.ensures _
    c.exchange.ensures
