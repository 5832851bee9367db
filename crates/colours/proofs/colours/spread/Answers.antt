-- `spread` meets its contract: the terms from i on, from the number and the table by now, give the answer for all.
-- Assumes nothing.
use Rattle.colours.specs.Colours.{plus}
use Rattle.colours.proofs.ColourLaws.{spread_end, spread-next, spread-done}
use Rattle.colours.proofs.colours.spread.Goals as goal

pub loop-x-preserved : goal.loop-x-preserved
unfolding plus
loop-x-preserved c = search spread-next

pub returns-then-x-eq0 : goal.returns-then-x-eq0
returns-then-x-eq0 c = search spread_end

pub returns : goal.returns
returns c = search spread-done
