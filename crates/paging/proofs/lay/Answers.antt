-- `paging::lay` meets its contract: the pages are written, or number 11. Assumes nothing.
use Rattle.paging.proofs.PagingLaws.{lay-short, lay-passed, lay-failed}
use Rattle.paging.proofs.lay.Goals as goal

pub returns-then-passes : goal.returns-then-passes
returns-then-passes c =
    lay-passed c.list_pages.ensures c.if-passes.true _ c.in-Some.is

pub returns-in-None : goal.returns-in-None
returns-in-None c = lay-short c.list_pages.ensures _ c.in-None.is

pub returns-else-passes : goal.returns-else-passes
returns-else-passes c =
    lay-failed c.list_pages.ensures c.if-passes.false _ c.in-Some.is
