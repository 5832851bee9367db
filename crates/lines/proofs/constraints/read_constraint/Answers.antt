-- `lines::constraints::read_constraint` meets its contract: numbers 4 and 6, 7, or the constraint.
-- Assumes nothing.
use Rattle.std.proofs.Common.{sym, arith}
use Rattle.std.proofs.Math.Seq.{length-take-le}
use Rattle.std.proofs.lemmas.Result.{err_from_is_err_and}
use Rattle.lines.proofs.ConstraintLaws.{constraint-refused, constraint-full, constraint-many, constraint-read}
use Rattle.lines.proofs.constraints.read_constraint.Goals as goal

pub slice_bounds-constraint_head-end-2 : goal.slice_bounds-constraint_head-end-2
slice_bounds-constraint_head-end-2 c =
    sym (length-take-le 64 c.args.names.now (omega (arith, c.requires.0.names-size)))

pub constraint_head-requires : goal.constraint_head-requires
constraint_head-requires c =
    omega (arith, c.requires.2, length-take-le 64 c.args.names.now (omega (arith, c.requires.0.names-size)))

pub returns-in_err-s : goal.returns-in_err-s
returns-in_err-s c =
    let p = err_from_is_err_and c.from_residual.result c.from_residual.ensures.1 in
    rw (p.1, p.2) (constraint-refused _ _ _ _ _ _ _ c.requires.2 _ c.constraint_head.ensures.0 _ c.in_err-s.was)

pub returns-then-full : goal.returns-then-full
returns-then-full c =
    constraint-full _ _ _ _ _ _ _ c.requires.2 _ c.constraint_head.ensures.0 _ c.in_ok-s.was c.if-full.true

pub returns-in_err-t : goal.returns-in_err-t
returns-in_err-t c =
    let p = err_from_is_err_and c.from_residual-in_err-t.result c.from_residual-in_err-t.ensures.1 in
    rw (p.1, p.2)
    (constraint-many _ _ _ _ _ _ _ c.requires.2 _ c.constraint_head.ensures.0 _ c.in_ok-s.was
    _ _ _ c.read_terms.ensures
    c.if-full.false _ c.in_err-t.was)

pub returns : goal.returns
returns c =
    let fits = rw c.in_ok-s.was at c.constraint_head.ensures.1 in
    constraint-read _ _ _ _ _ _ _ c.requires.2 _ c.constraint_head.ensures.0 _ c.in_ok-s.was
    _ _ _ c.read_terms.ensures
    c.if-full.false _ c.in_ok-t.was fits.1 fits.2
