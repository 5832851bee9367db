-- `programs::adds::constraint_line` meets its contract: the line is refused, or the last rule has one constraint more.
-- Assumes nothing.
use Rattle.std.proofs.Common.{refl}
use Rattle.std.proofs.lemmas.Result.{err_from_is_err_and}
use Rattle.programs.proofs.AddLaws.{adds-refused, adds-next, adds-gained}
use Rattle.programs.proofs.adds.constraint_line.Goals as goal

pub returns-in_err-r : goal.returns-in_err-r
returns-in_err-r c =
    let p = err_from_is_err_and c.from_residual.result c.from_residual.ensures.1 in
    rw (p.1, p.2) (
      adds-refused _ _ _ _ _ c.requires.2 c.requires.3 c.requires.4 _ _ c.requires.5 c.wide-h.ensures.0 _
          _ _ c.requires.1 _ _ c.read_constraint.ensures refl
          _ c.in_err-r.was,
      tt,
    )

pub returns : goal.returns
returns c = (
  adds-next _ _ _ _ _ c.requires.2 c.requires.3 c.requires.4 _ _ c.requires.5 c.wide-h.ensures.0 _ _ _
      c.requires.1 _ _ c.read_constraint.ensures refl
      _ c.in_ok-r.was _ c.add_cells.ensures,
  adds-gained _ _ _ _ _ c.requires.2 c.requires.3 c.requires.4 _ _ c.requires.5 c.wide-h.ensures.0 _ _ _
      c.requires.1 _ _ c.read_constraint.ensures refl
      _ c.in_ok-r.was _ c.add_cells.ensures,
)
