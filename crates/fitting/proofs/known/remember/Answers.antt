-- `remember` meets its contract.
-- Assumes nothing.
use Rattle.tallies.proofs.ExchangeLaws.{body-raisable}
use Rattle.fitting.proofs.KnownLaws.{remembered-equated, remembered-plain}
use Rattle.fitting.proofs.known.remember.Goals as goal

pub returns-then-equations-gt0 : goal.returns-then-equations-gt0
returns-then-equations-gt0 c =
    remembered-equated _ _ _ _ _ _ _ _ _ _ c.requires.0 c.body.ensures.size c.body.ensures.same c.lower_heads.auto.tally
    c.lower_heads.ensures c.mark.ensures c.wide.ensures.0 _ _ c.forget.ensures
    c.if-equations-gt0.true

pub returns-else-equations-gt0 : goal.returns-else-equations-gt0
returns-else-equations-gt0 c =
    remembered-plain _ _ _ _ _ _ _ _ _ _ c.requires.0 c.body.ensures.size c.body.ensures.same c.lower_heads.auto.tally
    c.lower_heads.ensures c.mark.ensures c.wide.ensures.0 c.if-equations-gt0.false

pub mark-requires : goal.mark-requires
mark-requires c = (
  body-raisable _ _ c.requires.0 _ c.body.ensures.size c.body.ensures.same _ c.wide.ensures.0 _ c.lower_heads.auto.tally
      c.lower_heads.ensures,
  c.requires.1,
)
