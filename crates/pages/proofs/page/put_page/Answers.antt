-- `pages::page::put_page` meets its contract: line 1, a blank line, and 58 lines with rows. Assumes nothing.
use native.Mathlib.Omega.{arith}
use Rattle.pages.proofs.PageLaws.{page-head, page-blank, page-rows, page-room, page-put}
use Rattle.pages.proofs.page.put_page.Goals as goal

pub returns : goal.returns
returns c =
    page-put _ _ _ c.put_first-blank.ensures c.behind-from.ensures c.put_row-size.ensures
    c.put_rows.ensures c.put_first-blank.auto.out c.put_row-size.auto.out

pub put_first-blank-requires : goal.put_first-blank-requires
put_first-blank-requires c = page-head _ _ _ c.requires.0

pub put_row-size-requires : goal.put_row-size-requires
put_row-size-requires c =
    page-blank _ _ _ c.requires.0 c.put_first-blank.ensures

pub overflow_add-blank : goal.overflow_add-blank
overflow_add-blank c =
    omega (arith, page-room _ _ _ c.requires.0 c.put_first-blank.ensures c.put_row-size.ensures)

pub put_rows-requires : goal.put_rows-requires
put_rows-requires c =
    (page-rows _ _ _ c.requires.0 c.put_first-blank.ensures c.put_row-size.ensures, c.requires.1)

pub slice_bounds-put_row-count : goal.slice_bounds-put_row-count
slice_bounds-put_row-count c = omega (arith, c.behind-from.ensures)

pub slice_bounds-put_row-start : goal.slice_bounds-put_row-start
slice_bounds-put_row-start c = omega (arith, c.behind-from.ensures)
