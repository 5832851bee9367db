-- `paging::pages` meets its contract: a refusal of the check, or the pages of its listing. Assumes nothing.
use Rattle.std.proofs.Common.{refl, sym, ap, ◌∙◌, Ok, arith}
use Rattle.std.proofs.lemmas.List.{length-take-le}
use Rattle.replies.specs.Replies.{ample}
use Rattle.answers.proofs.CheckLaws.{pass-within, fail-within}
use Rattle.paging.proofs.PagingLaws.{ask-passed, ask-failed}
use Rattle.paging.proofs.PagingLaws.{pages-refused, pages-passed, pages-failed}
use Rattle.paging.proofs.pages.Goals as goal

pub returns-in-Err : goal.returns-in-Err
unfolding ample
returns-in-Err c = pages-refused _ refl c.check.ensures _ c.in-Err.is

pub returns-in-Confluent : goal.returns-in-Confluent
unfolding ample
returns-in-Confluent c =
    pages-passed _ refl c.check.ensures (c.in-Ok.is ∙ ap Ok c.in-Confluent.is) c.lay.ensures

pub returns-in-Unjoined : goal.returns-in-Unjoined
unfolding ample
returns-in-Unjoined c =
    pages-failed _ refl c.check.ensures (c.in-Ok.is ∙ ap Ok c.in-Unjoined.is) c.lay-in-Unjoined.ensures

pub slice_bounds-plain-end : goal.slice_bounds-plain-end
slice_bounds-plain-end c =
    omega (arith, pass-within c.check.ensures.0 (c.in-Ok.is ∙ ap Ok c.in-Confluent.is))

pub slice_bounds-lay-end : goal.slice_bounds-lay-end
slice_bounds-lay-end c =
    let inside = pass-within c.check.ensures.0 (c.in-Ok.is ∙ ap Ok c.in-Confluent.is) in
    sym (length-take-le _ _ inside)

pub lay-requires : goal.lay-requires
unfolding ample
lay-requires c =
    ask-passed _ refl c.check.ensures (c.in-Ok.is ∙ ap Ok c.in-Confluent.is)

pub slice_bounds-plain-end-in-Unjoined : goal.slice_bounds-plain-end-in-Unjoined
slice_bounds-plain-end-in-Unjoined c =
    omega (arith, fail-within c.check.ensures.0 (c.in-Ok.is ∙ ap Ok c.in-Unjoined.is))

pub slice_bounds-lay-end-in-Unjoined : goal.slice_bounds-lay-end-in-Unjoined
slice_bounds-lay-end-in-Unjoined c =
    let inside = fail-within c.check.ensures.0 (c.in-Ok.is ∙ ap Ok c.in-Unjoined.is) in
    sym (length-take-le _ _ inside)

pub lay-requires-in-Unjoined : goal.lay-requires-in-Unjoined
unfolding ample
lay-requires-in-Unjoined c =
    ask-failed _ refl c.check.ensures (c.in-Ok.is ∙ ap Ok c.in-Unjoined.is)
