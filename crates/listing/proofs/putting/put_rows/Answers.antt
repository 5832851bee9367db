-- `listing::putting::put_rows` meets its contract: the lines of the rows passed are written. Assumes nothing.
use Rattle.std.proofs.Common.{arith, ◌∙◌}
use Rattle.listing.proofs.WriteLaws.{writing_start, writing-first, writing-room, writing-line, writing-end, count-front}
use Rattle.listing.proofs.LineLaws.{rows-here, rows-done}
use Rattle.listing.proofs.putting.put_rows.Goals as goal

pub loop-row-init : goal.loop-row-init
loop-row-init c =
    let whole = c.into_iter-row-iterator.ensures.into_iter_gives in
    let size = c.chunks_exact-row-items.ensures.size in
    let rest = c.chunks_exact-row-items.ensures.rest in
    (cc, rw (whole, rest) (writing_start _ _ _))

pub put_row-size-requires : goal.put_row-size-requires
put_row-size-requires c =
    let step = c.in-Some.ensures.steps.1 in
    let five = step.1 ∙ c.loop-row.invariant.0 in
    (five, count-front (writing-first _ (rows-here _ _ _ _ _ _ _ step.0 five) c.requires c.loop-row.invariant.1))

pub overflow_add-end : goal.overflow_add-end
overflow_add-end c =
    let step = c.in-Some.ensures.steps.1 in
    let here = rows-here _ _ _ _ _ _ _ step.0 (step.1 ∙ c.loop-row.invariant.0) in
    let room = writing-room _ here c.requires c.loop-row.invariant.1 c.put_row-size.ensures in
    omega (arith, room)

pub loop-row-preserved : goal.loop-row-preserved
loop-row-preserved c =
    let step = c.in-Some.ensures.steps.1 in
    let here = rows-here _ _ _ _ _ _ _ step.0 (step.1 ∙ c.loop-row.invariant.0) in
    let line = c.put_row-size in (
      c.in-Some.ensures.steps.0 ∙ c.loop-row.invariant.0,
      writing-line _ _ here c.loop-row.invariant.1 c.behind-from.ensures line.ensures line.auto.out,
    )

pub returns : goal.returns
returns c =
    writing-end c.loop-row.invariant.1
    (rows-done _ _ _ _ _ (omega (arith, c.in-None.ensures.steps.1.0, c.loop-row.invariant.0)))
