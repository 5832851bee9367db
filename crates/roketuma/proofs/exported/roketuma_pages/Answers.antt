-- `roketuma::roketuma_pages` meets its contract: the answer of `pages`, as a number. Assumes nothing.
use Rattle.paging.proofs.PagingLaws.{answer-small, pages-returned}
use Rattle.roketuma.proofs.exported.roketuma_pages.Goals as goal

pub returns : goal.returns
returns c =
    pages-returned c.args.program.now c.pages.ensures c.check_number.ensures

pub check_number-requires : goal.check_number-requires
check_number-requires c =
    answer-small c.args.program.now c.pages.ensures
