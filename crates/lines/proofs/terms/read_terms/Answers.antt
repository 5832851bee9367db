-- `lines::terms::read_terms` meets its contract: the fields passed are read, and the constants after those left are all.
-- Assumes nothing.
use Rattle.std.proofs.Common.{refl, add-one}
use Rattle.std.proofs.lemmas.Result.{err_from_is_err_and}
use Rattle.lines.proofs.TermLaws.{walk_start, walk-next, walk-full, walk_end}
use Rattle.lines.proofs.terms.read_terms.Goals as goal

pub loop-i-init : goal.loop-i-init
loop-i-init c =
    let pre = c.requires in
    walk_start _ _ _ _ _ _ pre.1 pre.0.names-size pre.0.places-size

pub returns-in_err-t : goal.returns-in_err-t
returns-in_err-t c =
    let loop = c.loop-i in
    let p = err_from_is_err_and c.from_residual.result c.from_residual.ensures.1 in
    rw (p.1, p.2)
    (walk-full _ _ _ _ _ _ _ _ _ _ _ loop.invariant _ _ _ _ _ c.loop-i-test.true
    c.requires.2 refl refl c.read_term.ensures _ c.in_err-t.was)

pub loop-i-preserved : goal.loop-i-preserved
loop-i-preserved c =
    let loop = c.loop-i in
    rw (add-one loop.i)
    (walk-next _ _ _ _ _ _ _ _ _ _ _ loop.invariant _ _ _ _ _ c.loop-i-test.true
    c.requires.2 refl refl c.read_term.ensures _ c.in_ok-t.was c.requires.3)

pub returns : goal.returns
returns c = walk_end _ _ _ _ _ _ _ _ _ _ _ c.loop-i.invariant c.loop-i-test.false
