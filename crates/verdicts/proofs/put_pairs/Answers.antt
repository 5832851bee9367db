-- `verdicts::put_pairs` meets its contract: the lines of the heads before i are written. Assumes nothing.
use Rattle.std.proofs.Common.{arith}
use Rattle.listing.proofs.WriteLaws.{writing_start, writing-first, writing-room, writing-line, writing-end, count-front}
use Rattle.verdicts.proofs.CheckLaws.{pairs-here, pairs-done}
use Rattle.verdicts.proofs.put_pairs.Goals as goal

pub loop-i-init : goal.loop-i-init
loop-i-init c =
    writing_start _ _ _

pub loop-i-preserved : goal.loop-i-preserved
loop-i-preserved c =
    let line = c.put_pair-size in
    writing-line _ _ (pairs-here _ _ c.loop-i-test.true) c.loop-i.invariant c.behind-from.ensures line.ensures
    line.auto.out

pub put_pair-size-requires : goal.put_pair-size-requires
put_pair-size-requires c =
    count-front (writing-first _ (pairs-here _ _ c.loop-i-test.true) c.requires c.loop-i.invariant)

pub overflow_add-end : goal.overflow_add-end
overflow_add-end c =
    let room =
    writing-room _ (pairs-here _ _ c.loop-i-test.true) c.requires c.loop-i.invariant
    c.put_pair-size.ensures in
    omega (arith, room)

pub returns : goal.returns
returns c = writing-end c.loop-i.invariant (pairs-done _ _ c.loop-i-test.false)

pub slice_bounds-put_pair-count : goal.slice_bounds-put_pair-count
slice_bounds-put_pair-count c = omega (arith, c.behind-from.ensures)

pub slice_bounds-put_pair-start : goal.slice_bounds-put_pair-start
slice_bounds-put_pair-start c = omega (arith, c.behind-from.ensures)
