-- `walk_row` meets its contract: the overlaps with the rules from j on are left.
-- Assumes nothing.
use Rattle.std.proofs.Common.{rules, arith, refl}
use Rattle.std.proofs.lemmas.Result.{err_from_is_err_and}
use Rattle.critical.proofs.StepLaws.{room-kept}
use Rattle.critical.proofs.TableLaws.{row-start, row_next, row-stop, row-end}
use Rattle.critical.proofs.walking.walk_row.Goals as goal

pub loop-j-init : goal.loop-j-init
loop-j-init c = (row-start _ _ _ _ c.requires.1 c.requires.2, refl, refl)

pub walk_pair-requires : goal.walk_pair-requires
walk_pair-requires c =
    (search rules, omega arith, omega arith, omega arith, room-kept c.requires.4 c.loop-j.invariant.1 c.loop-j.invariant.2)

pub returns-in_err-seen : goal.returns-in_err-seen
returns-in_err-seen c =
    let p = err_from_is_err_and c.from_residual.result c.from_residual.ensures.1 in
    rw (p.1, p.2) (row-stop _ _ _ _ _ _ c.loop-j.invariant.0 c.loop-j-test.true _ c.in_err-seen.ensures)

pub loop-j-preserved : goal.loop-j-preserved
loop-j-preserved c = (
  row_next _ _ _ _ _ _ c.loop-j.invariant.0 c.loop-j-test.true _ c.in_ok-seen.ensures,
  search rules,
  search rules,
)

pub returns : goal.returns
returns c = row-end _ _ _ _ _ _ c.loop-j.invariant.0 c.loop-j-test.false
