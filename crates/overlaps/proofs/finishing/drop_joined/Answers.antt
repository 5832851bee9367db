-- `drop_joined` meets its contract: the first k heads and those from g on that stay are all that stay.
-- Assumes nothing.
use Rattle.std.proofs.Common.{rules}
use Rattle.overlaps.proofs.DropLaws.{dropping-start, dropping-end, dropping-joined, dropping-kept}
use Rattle.overlaps.proofs.finishing.drop_joined.Goals as goal
use Rattle.overlaps.proofs.finishing.drop_joined.Goals.{then-not-is_chosen, else-not-is_chosen}

pub loop-g-init : goal.loop-g-init
loop-g-init c = (search dropping-start, search rules, search rules)

pub loop-g-preserved : goal.loop-g-preserved
loop-g-preserved c = (
  elim c.if-not-is_chosen.branch [
    | then-not-is_chosen w ↦
        rw (w.cells-is, w.k-is)
        (dropping-kept _ _ _ _ _ _ _ c.loop-g.invariant.0 c.loop-g-test.true _ _ w.if-not-is_chosen.true
        c.is_chosen.ensures w.move_row.ensures)
    | else-not-is_chosen w ↦
        rw (w.cells-is, w.k-is)
        (dropping-joined _ _ _ _ _ _ _ c.loop-g.invariant.0 c.loop-g-test.true _ w.if-not-is_chosen.false
        c.is_chosen.ensures)
  ],
  search rules,
  search rules,
)

pub returns : goal.returns
returns c = search dropping-end
