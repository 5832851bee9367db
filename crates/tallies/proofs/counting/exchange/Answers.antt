-- `exchange` meets its contract: the heads that the rule removes go, then its body comes.
-- Assumes nothing.
use Rattle.tallies.proofs.ExchangeLaws.{body-raisable, body-raised}
use Rattle.tallies.proofs.counting.exchange.Goals as goal

pub returns : goal.returns
returns c =
    body-raised _ _ c.requires _ c.body.ensures.size c.body.ensures.same _ c.wide.ensures.0 _ c.lower_heads.auto.tally
    c.lower_heads.ensures _ c.raise.ensures

pub raise-requires : goal.raise-requires
raise-requires c =
    body-raisable _ _ c.requires _ c.body.ensures.size c.body.ensures.same _ c.wide.ensures.0 _ c.lower_heads.auto.tally
    c.lower_heads.ensures
