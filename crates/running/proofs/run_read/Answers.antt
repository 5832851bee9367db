-- `running::run_read` meets its contract: the goal can be run, its end can be listed, and the reply is the definition's.
-- Assumes nothing.
use mathlib.Core.Path.{refl}
use Rattle.running.proofs.ReadyLaws.{few-variables, front-size, front-starts, back-few, back-size, back-listable, back-replies}
use Rattle.running.proofs.run_read.Goals as goal

pub slice_bounds-bound-end : goal.slice_bounds-bound-end
slice_bounds-bound-end c =
    few-variables c.requires

pub slice_bounds-derive-end : goal.slice_bounds-derive-end
slice_bounds-derive-end c =
    front-size c.requires _ refl

pub derive-end-requires : goal.derive-end-requires
derive-end-requires c =
    front-starts c.requires _ refl

pub slice_bounds-bound-end-2 : goal.slice_bounds-bound-end-2
slice_bounds-bound-end-2 c =
    back-few c.requires _ refl c.derive-end.auto.bound _ c.derive-end.ensures

pub slice_bounds-list_final-end : goal.slice_bounds-list_final-end
slice_bounds-list_final-end c =
    back-size c.requires _ refl c.derive-end.auto.bound _ c.derive-end.ensures

pub list_final-requires : goal.list_final-requires
list_final-requires c =
    back-listable c.requires _ refl c.derive-end.auto.bound _ c.derive-end.ensures
    c.derive-end.auto.cells

pub returns : goal.returns
returns c =
    back-replies c.requires _ refl c.derive-end.auto.bound _ c.derive-end.ensures c.list_final.ensures
