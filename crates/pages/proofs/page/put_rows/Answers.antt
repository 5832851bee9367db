-- `pages::page::put_rows` meets its contract: some lines are written, and the next row starts at `at`. Assumes nothing.
use native.Mathlib.Omega.{arith}
use Rattle.pages.proofs.PageLaws.{rowing_start, rowing-count, rowing-room, rowing-next, rowing-end}
use Rattle.pages.proofs.page.put_rows.Goals as goal

pub returns : goal.returns
returns c = rowing-end c.loop.invariant c.loop-test.false

pub loop-init : goal.loop-init
loop-init c = rowing_start _ _ _ _ _ c.requires.1

pub loop-preserved : goal.loop-preserved
loop-preserved c =
    rowing-next c.loop.invariant c.next_row-row.ensures _ c.loop-test.true
    c.behind-begin.ensures c.put_row-size.ensures c.put_row-size.auto.out

pub next_row-row-requires : goal.next_row-row-requires
next_row-row-requires c = c.loop.invariant.within

pub slice_bounds-put_row-count-in-loop : goal.slice_bounds-put_row-count-in-loop
slice_bounds-put_row-count-in-loop c = omega (arith, c.next_row-row.ensures.begun)

pub put_row-size-requires : goal.put_row-size-requires
put_row-size-requires c =
    rowing-count c.loop.invariant c.next_row-row.ensures c.loop-test.true
    c.requires.0

pub overflow_add-end : goal.overflow_add-end
overflow_add-end c =
    let room =
    rowing-room c.loop.invariant c.next_row-row.ensures c.loop-test.true
    c.requires.0 c.put_row-size.ensures in
    omega (arith, room)

pub slice_bounds-put_row-count : goal.slice_bounds-put_row-count
slice_bounds-put_row-count c = omega (arith, c.behind-begin.ensures)

pub slice_bounds-put_row-start : goal.slice_bounds-put_row-start
slice_bounds-put_row-start c = omega (arith, c.behind-begin.ensures)
