-- `pair_at` meets its contract: one law for each way out.
-- Assumes nothing.
use Rattle.comparison.proofs.PlaceLaws.{try-rows, try-rows-in, pair-used, pair-symbol, pair-apart, pair-done}
use Rattle.comparison.proofs.placing.pair_at.Goals as goal

pub returns-then-used-j : goal.returns-then-used-j
returns-then-used-j c = pair-used _ _ _ _ _ _ c.requires.0 c.requires.1 c.requires.2 c.if-used-j.true

pub returns-then-a-b : goal.returns-then-a-b
returns-then-a-b c =
    pair-symbol _ _ _ _ _ _ c.requires.0 c.requires.1 c.requires.2 c.if-used-j.false c.if-a-b.true

pub pair_rows-requires : goal.pair_rows-requires
pair_rows-requires c = try-rows _ _ _ _ _ _ c.requires.0 c.requires.1 c.requires.2

pub unpair-requires : goal.unpair-requires
unpair-requires c = (
  try-rows-in _ _ _ _ _ _ c.requires.0 c.requires.1 c.requires.2 _ _ c.pair_rows.auto.forth c.pair_rows.auto.back,
  c.in-Err.ensures.size,
)

pub returns-in-Err : goal.returns-in-Err
returns-in-Err c =
    pair-apart _ _ _ _ _ _ c.requires.0 c.requires.1 c.requires.2 c.if-used-j.false c.if-a-b.false _ _ _
    c.in-Err.ensures _ _ c.unpair.ensures.0 c.unpair.ensures.1

pub returns-in-Ok : goal.returns-in-Ok
returns-in-Ok c =
    pair-done _ _ _ _ _ _ c.requires.0 c.requires.1 c.requires.2 c.if-used-j.false c.if-a-b.false _ _ _ c.in-Ok.ensures
