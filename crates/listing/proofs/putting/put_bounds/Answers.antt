-- `listing::putting::put_bounds` meets its contract: the lines before i are written. Assumes nothing.
use native.Mathlib.Omega.{arith}
use Rattle.listing.proofs.WriteLaws.{writing_start, writing-first, writing-room, writing-line, writing-end}
use Rattle.listing.proofs.WriteLaws.{count-front}
use Rattle.listing.proofs.LineLaws.{bounds-here, bounds-done}
use Rattle.listing.proofs.putting.put_bounds.Goals as goal

pub loop-i-init : goal.loop-i-init
loop-i-init c = writing_start _ _ _

pub put_bound-size-requires : goal.put_bound-size-requires
put_bound-size-requires c =
    let here = c.loop-i-test.true in
    let few = writing-first _ (bounds-here _ _ c.args.bound.now _ here) c.requires.0 c.loop-i.invariant in
    (count-front few, omega (arith, here, c.requires.1))

pub overflow_add-end : goal.overflow_add-end
overflow_add-end c =
    let here = bounds-here _ _ c.args.bound.now _ c.loop-i-test.true in
    let room = writing-room _ here c.requires.0 c.loop-i.invariant c.put_bound-size.ensures in
    omega (arith, room)

pub loop-i-preserved : goal.loop-i-preserved
loop-i-preserved c =
    let here = bounds-here _ _ c.args.bound.now _ c.loop-i-test.true in
    let line = c.put_bound-size in
    writing-line _ _ here c.loop-i.invariant c.behind-start.ensures line.ensures line.auto.out

pub returns : goal.returns
returns c =
    writing-end c.loop-i.invariant (bounds-done _ _ c.args.bound.now _ c.loop-i-test.false)

pub slice_bounds-put_bound-count : goal.slice_bounds-put_bound-count
slice_bounds-put_bound-count c = omega (arith, c.behind-start.ensures)

pub slice_bounds-put_bound-start : goal.slice_bounds-put_bound-start
slice_bounds-put_bound-start c = omega (arith, c.behind-start.ensures)
