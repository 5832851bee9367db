-- `programs::adds::equation_line` meets its contract: the line is refused, or the last rule has one equation more.
-- Assumes nothing.
use Rattle.std.proofs.Common.{sym, ◌∙◌, arith}
use Rattle.std.proofs.lemmas.Result.{err_from_is_err_and}
use Rattle.programs.proofs.AddLaws.{sides-faulty, sides-full, sides-many, sides-next}
use Rattle.programs.proofs.adds.equation_line.Goals as goal

pub returns-then-is_equation_faulty : goal.returns-then-is_equation_faulty
returns-then-is_equation_faulty c =
    λ used.
    sides-faulty _ _ _ _ _ c.requires.1 c.requires.2 c.requires.3 used (λ fs h. sym c.if-is_equation_faulty.true ∙
    c.is_equation_faulty.ensures.0 fs h)

pub returns-then-full : goal.returns-then-full
returns-then-full c =
    λ used.
    sides-full _ _ _ _ _ c.requires.1 c.requires.2 c.requires.3 used (λ fs h. sym c.if-is_equation_faulty.false ∙
    c.is_equation_faulty.ensures.0 fs h)
    (c.is_equation_faulty.ensures.1 c.if-is_equation_faulty.false) _ c.wide-h.ensures.0 (omega (arith, c.if-full.true))

pub returns-in_err-t : goal.returns-in_err-t
returns-in_err-t c =
    let p = err_from_is_err_and c.from_residual.result c.from_residual.ensures.1 in
    λ used.
    rw (p.1, p.2)
    (sides-many _ _ _ _ _ c.requires.1 c.requires.2 c.requires.3 used (λ fs h. sym c.if-is_equation_faulty.false ∙
    c.is_equation_faulty.ensures.0 fs h)
    (c.is_equation_faulty.ensures.1 c.if-is_equation_faulty.false) _ c.wide-h.ensures.0
    (omega (arith, c.if-full.false)) _ _ _ c.read_terms.ensures
    _ c.in_err-t.was)

pub returns : goal.returns
returns c =
    λ used.
    sides-next _ _ _ _ _ c.requires.1 c.requires.2 c.requires.3 used (λ fs h. sym c.if-is_equation_faulty.false ∙
    c.is_equation_faulty.ensures.0 fs h)
    (c.is_equation_faulty.ensures.1 c.if-is_equation_faulty.false) _ c.wide-h.ensures.0
    (omega (arith, c.if-full.false)) _ _ _ c.read_terms.ensures
    _ c.in_ok-t.was _ c.add_cells.ensures
