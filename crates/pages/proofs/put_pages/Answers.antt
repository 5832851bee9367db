-- `pages::put_pages` meets its contract: the pages before a number are written. Assumes nothing.
use native.Mathlib.Omega.{arith}
use Rattle.pages.proofs.PageLaws.{paging-start, paging-count, paging-number, paging-room, paging-next, paging-end}
use Rattle.pages.proofs.put_pages.Goals as goal

pub loop-at-init : goal.loop-at-init
loop-at-init c = paging-start _ _

pub loop-at-preserved : goal.loop-at-preserved
loop-at-preserved c =
    paging-next c.loop-at.invariant c.word_at-first.ensures c.loop-at-test.true _
    c.behind-from.ensures c.put_page-place.ensures c.put_page-place.auto.out

pub returns : goal.returns
returns c = paging-end c.loop-at.invariant c.loop-at-test.false

pub put_page-place-requires : goal.put_page-place-requires
put_page-place-requires c =
    let here = c.loop-at.invariant in
    (paging-count here c.word_at-first.ensures c.loop-at-test.true c.requires, here.within)

pub overflow_add-end : goal.overflow_add-end
overflow_add-end c =
    let room =
    paging-room c.loop-at.invariant c.word_at-first.ensures c.loop-at-test.true c.requires
    c.put_page-place.ensures.wrote in
    omega (arith, room)

pub overflow_add-number : goal.overflow_add-number
overflow_add-number c =
    omega (
      arith,
      paging-number c.loop-at.invariant c.word_at-first.ensures c.loop-at-test.true c.requires,
    )

pub loop-at-smaller : goal.loop-at-smaller
loop-at-smaller c =
    let here = c.loop-at-test.true in
    omega (arith, here, c.put_page-place.ensures.ahead here, c.put_page-place.ensures.within)

pub slice_bounds-put_page-count : goal.slice_bounds-put_page-count
slice_bounds-put_page-count c = omega (arith, c.behind-from.ensures)

pub slice_bounds-put_page-start : goal.slice_bounds-put_page-start
slice_bounds-put_page-start c = omega (arith, c.behind-from.ensures)
