-- `programs::adds::kept_line` meets its contract: the line is refused as an H line is, or the head that it adds is counted as kept.
-- Assumes nothing.
use Rattle.std.proofs.Common.{refl}
use Rattle.std.proofs.lemmas.Result.{err_from_is_err_and}
use Rattle.programs.specs.Read.{part_form}
use Rattle.programs.proofs.AddLaws.{kept-refused, kept_next}
use Rattle.programs.proofs.adds.kept_line.Goals as goal

pub returns-in_err-next : goal.returns-in_err-next
unfolding part_form
returns-in_err-next c =
    let p = err_from_is_err_and c.from_residual.result c.from_residual.ensures.1 in
    rw (p.1, p.2)
    (kept-refused _ _ _ _ _ c.requires.2 c.requires.3 c.requires.4 _ _ _ _ _ c.constraint_line.ensures.0
    _ c.in_err-next.was)

pub returns : goal.returns
unfolding part_form
returns c =
    kept_next _ _ _ _ _ c.requires.2 c.requires.3 c.requires.4 _ _ _ _ _ c.constraint_line.ensures.0
    _ c.in_ok-next.was c.constraint_line.ensures.1 _ refl
