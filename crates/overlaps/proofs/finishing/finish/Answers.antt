-- `finish` meets its contract: the joined heads dropped, and the variables of the others numbered.
-- Assumes nothing.
use Prim.Native.Nat.{◌*◌}
use mathlib.Core.Path.{refl, sym, ◌∙◌}
use lib.ListN.{replicate}
use lib.Seq.{length-take-le}
use Rattle.tables.proofs.Renumbering.{zeros}
use Rattle.overlaps.proofs.GoalLaws.{goal-room, goal-numberable, goal-finished}
use Rattle.overlaps.proofs.finishing.finish.Goals as goal

pub slice_bounds-number-end-3 : goal.slice_bounds-number-end-3
slice_bounds-number-end-3 c =
    sym (length-take-le (5 * c.drop_joined-count.result) c.drop_joined-count.new.cells
    (goal-room _ _ _ _ c.requires _ _ c.drop_joined-count.ensures c.drop_joined-count.auto.cells))

pub number-variables-requires : goal.number-variables-requires
number-variables-requires c = (
  zeros (replicate 52 0) 52 refl,
  goal-numberable _ _ _ _ c.requires _ _ c.drop_joined-count.ensures c.drop_joined-count.auto.cells,
)

pub returns : goal.returns
returns c =
    let numbered = c.number-variables in
    let room = goal-room _ _ _ _ c.requires _ _ c.drop_joined-count.ensures c.drop_joined-count.auto.cells in
    goal-finished _ _ _ _ c.requires _ _ c.drop_joined-count.ensures c.drop_joined-count.auto.cells _ _ _
    (numbered.auto.cells ∙ length-take-le (5 * c.drop_joined-count.result) c.drop_joined-count.new.cells room)
    numbered.ensures
