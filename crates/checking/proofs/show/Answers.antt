-- `checking::show` meets its contract: the used cells and both ends are handed to the listing. Assumes nothing.
use native.Mathlib.Omega.{arith}
use Rattle.checking.proofs.CheckingLaws.{cells-few, listed-within, front-few, show-listable, show-replies}
use Rattle.inputs.proofs.TabledLaws.{front_length}
use Rattle.checking.proofs.show.Goals as goal

pub returns : goal.returns
returns c =
    show-replies c.requires c.listed_cells-a.ensures c.listed_cells-b.ensures
    c.end_shown.ensures c.end_shown-2.ensures c.fail.ensures

pub listed_cells-a-requires : goal.listed_cells-a-requires
listed_cells-a-requires c =
    cells-few c.requires.unjoined-in.first-end

pub listed_cells-b-requires : goal.listed_cells-b-requires
listed_cells-b-requires c =
    cells-few c.requires.unjoined-in.second-end

pub slice_bounds-fail-end : goal.slice_bounds-fail-end
slice_bounds-fail-end c =
    let shown = c.requires.unjoined-in in
    front_length _ _ (omega (arith, shown.count-few, shown.heads-few, c.requires.goal-size))

pub slice_bounds-fail-end-2 : goal.slice_bounds-fail-end-2
slice_bounds-fail-end-2 c =
    front_length _ _ (omega (arith, c.requires.unjoined-in.variables-few, c.requires.bounds-size))

pub slice_bounds-fail-end-3 : goal.slice_bounds-fail-end-3
slice_bounds-fail-end-3 c =
    listed-within c.requires.unjoined-in.first-end c.listed_cells-a.ensures

pub slice_bounds-fail-end-4 : goal.slice_bounds-fail-end-4
slice_bounds-fail-end-4 c =
    front_length _ _ (listed-within c.requires.unjoined-in.first-end c.listed_cells-a.ensures)

pub slice_bounds-fail-end-5 : goal.slice_bounds-fail-end-5
slice_bounds-fail-end-5 c =
    listed-within c.requires.unjoined-in.second-end c.listed_cells-b.ensures

pub slice_bounds-fail-end-6 : goal.slice_bounds-fail-end-6
slice_bounds-fail-end-6 c =
    front_length _ _ (listed-within c.requires.unjoined-in.second-end c.listed_cells-b.ensures)

pub fail-requires : goal.fail-requires
fail-requires c =
    show-listable c.requires c.listed_cells-a.ensures c.listed_cells-b.ensures
    c.end_shown.ensures c.end_shown-2.ensures (search (front-few, c.requires.goal-size))
