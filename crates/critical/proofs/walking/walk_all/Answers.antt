-- `walk_all` meets its contract: the overlaps of rule i and the later first rules are left.
-- Assumes nothing.
use Rattle.std.proofs.Common.{rules, arith, refl}
use Rattle.std.proofs.lemmas.Result.{err_from_is_err_and}
use Rattle.critical.proofs.StepLaws.{room-kept}
use Rattle.critical.proofs.TableLaws.{table-start, table-next, table-stop, table-end}
use Rattle.critical.proofs.walking.walk_all.Goals as goal

pub loop-i-init : goal.loop-i-init
loop-i-init c = (table-start _ _ c.requires.1, refl, refl)

pub walk_row-requires : goal.walk_row-requires
walk_row-requires c =
    (search rules, omega arith, omega arith, omega arith, room-kept c.requires.2 c.loop-i.invariant.1 c.loop-i.invariant.2)

pub returns-in_err-seen : goal.returns-in_err-seen
returns-in_err-seen c =
    let p = err_from_is_err_and c.from_residual.result c.from_residual.ensures.1 in
    rw (p.1, p.2) (table-stop _ _ _ _ c.loop-i.invariant.0 c.loop-i-test.true _ c.in_err-seen.ensures)

pub loop-i-preserved : goal.loop-i-preserved
loop-i-preserved c = (
  table-next _ _ _ _ c.loop-i.invariant.0 c.loop-i-test.true _ c.in_ok-seen.ensures,
  search rules,
  search rules,
)

pub returns : goal.returns
returns c = search table-end
