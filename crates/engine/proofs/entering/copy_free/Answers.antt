-- `copy_free` meets its contract: the constraints in front and those from p on that stay are all that stay.
-- Assumes nothing.
use Rattle.std.proofs.Common.{arith}
use Rattle.engine.proofs.EnterLaws.{freeing-start, freeing-end, freeing-taken, freeing-kept}
use Rattle.engine.proofs.entering.copy_free.Goals as goal
use Rattle.engine.proofs.entering.copy_free.Goals.{then-not-is_among, else-not-is_among}

pub loop-p-init : goal.loop-p-init
loop-p-init c = freeing-start _ _ _

pub loop-p-preserved : goal.loop-p-preserved
loop-p-preserved c =
    elim c.if-not-is_among.branch [
      | then-not-is_among w ↦ rw (w.cells-is, w.k-is) (freeing-kept _ _ _ _ _ _ c.requires.0 c.loop-p.invariant (omega arith) _ _
          (omega arith) w.if-not-is_among.true c.is_among.ensures w.copy_row.ensures)
      | else-not-is_among w ↦ rw (w.cells-is, w.k-is) (freeing-taken _ _ _ _ _ _ c.requires.0 c.loop-p.invariant (omega arith) _
          w.if-not-is_among.false c.is_among.ensures)
    ]

pub returns : goal.returns
returns c = freeing-end _ _ _ _ _ _ c.requires.0 c.loop-p.invariant (omega arith)
