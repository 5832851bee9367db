-- `colours::colours::give_all` meets its contract. Assumes nothing.
use Rattle.std.proofs.Common.{◌∙◌}
use Rattle.colours.proofs.ColourLaws.{give-next, give-done, lent_below}
use Rattle.colours.proofs.colours.give_all.Goals as goal

pub give-requires : goal.give-requires
give-requires c =
    (lent_below _ _ c.loop-i.i c.requires.1, c.loop-i.invariant.size ∙ c.requires.2)

pub loop-i-preserved : goal.loop-i-preserved
loop-i-preserved c = search give-next

pub returns : goal.returns
returns c = search give-done
