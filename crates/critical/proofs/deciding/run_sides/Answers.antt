-- `run_sides` meets its contract: each side is run to its end, in its part of the bounds.
-- Assumes nothing.
use Rattle.critical.proofs.VerdictLaws.{run-bound, run-first, run-second, run_ends}
use Rattle.critical.proofs.deciding.run_sides.Goals as goal

pub slice_bounds-side-end-2 : goal.slice_bounds-side-end-2
slice_bounds-side-end-2 c = run-bound _ _ _ _ _ _ c.requires

pub side-first-requires : goal.side-first-requires
side-first-requires c = run-first _ _ _ _ _ _ c.requires

pub side-second-requires : goal.side-second-requires
side-second-requires c =
    run-second _ _ _ _ _ _ c.requires
    c.side-first.new.bound c.side-first.auto.bound

pub returns : goal.returns
returns c =
    run_ends _ _ _ _ _ _ c.requires _ c.side-first.auto.bound _ _ c.side-first.auto.cells
    c.side-first.ensures _ _ _ c.side-second.auto.bound c.side-second.auto.cells
    c.side-second.ensures _
