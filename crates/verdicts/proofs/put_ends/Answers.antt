-- `verdicts::put_ends` meets its contract: one end behind the other. Assumes nothing.
use mathlib.Core.Path.{sym}
use native.Mathlib.Omega.{arith}
use lib.Seq.{length-take-le}
use Rattle.verdicts.proofs.CheckLaws.{lent_writable, ends-room, ends-all-room, ends-wrote}
use Rattle.verdicts.proofs.put_ends.Goals as goal

pub slice_bounds-put_end-count : goal.slice_bounds-put_end-count
slice_bounds-put_end-count c = omega (arith, c.behind-from.ensures)

pub slice_bounds-put_end-end-2 : goal.slice_bounds-put_end-end-2
slice_bounds-put_end-end-2 c =
    sym (length-take-le c.args.shown.variables c.args.bounds.now c.requires.within)

pub put_end-size-requires : goal.put_end-size-requires
put_end-size-requires c =
    c.requires.first-end

pub overflow_add-next : goal.overflow_add-next
overflow_add-next c =
    omega (arith, ends-room _ _ _ _ _ _ c.requires.counted c.put_end-size.ensures)

pub slice_bounds-put_end-count-2 : goal.slice_bounds-put_end-count-2
slice_bounds-put_end-count-2 c = omega (arith, c.behind-start.ensures)

pub slice_bounds-put_end-count-3 : goal.slice_bounds-put_end-count-3
slice_bounds-put_end-count-3 c =
    omega (arith, c.requires.within)

pub put_end-last-requires : goal.put_end-last-requires
put_end-last-requires c =
    lent_writable _ _ c.args.bounds.now c.args.one.now _ c.args.shown c.requires.second-end

pub overflow_add-result : goal.overflow_add-result
overflow_add-result c =
    let room = ends-all-room _ _ _ _ _ _ c.requires.counted c.put_end-size.ensures c.put_end-last.ensures in
    omega (arith, room)

pub returns : goal.returns
returns c =
    let one = c.put_end-size in
    ends-wrote _ _ _ _ _ _ _ _ c.behind-from.ensures one.ensures one.auto.out c.behind-start.ensures
    c.put_end-last.ensures
