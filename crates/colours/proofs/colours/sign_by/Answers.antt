-- `sign_by` meets its contract: the terms from i on, from the number by now, give the answer for all.
-- Assumes nothing.
use Rattle.colours.proofs.ColourLaws.{sign-end, sign-next, sign-done}
use Rattle.colours.proofs.colours.sign_by.Goals as goal

pub returns-then-x-eq0 : goal.returns-then-x-eq0
returns-then-x-eq0 g c = search sign-end

pub loop-x-preserved : goal.loop-x-preserved
loop-x-preserved g c = search sign-next

pub returns : goal.returns
returns g c = search sign-done
