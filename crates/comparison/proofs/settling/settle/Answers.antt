-- `settle` meets its contract: all is as it was before the first position that will do.
-- Assumes nothing.
use Rattle.std.proofs.Common.{sym}
use Rattle.comparison.proofs.SettleLaws.{settle-found, settle-next}
use Rattle.comparison.proofs.settling.settle.Goals as goal

pub returns-then-is_some : goal.returns-then-is_some
returns-then-is_some c =
    settle-found _ _ _ _ _ _ _ _ c.loop-j.j c.loop-j.invariant c.requires.0 c.loop-j-test.true c.requires.1
    c.pair_at.result _ _ _ c.pair_at.ensures (sym c.if-is_some.ensures)

pub loop-j-preserved : goal.loop-j-preserved
loop-j-preserved c =
    settle-next c.args.a.now c.args.b.now _ _ _ _ _ _ c.loop-j.j c.loop-j.invariant c.pair_at.result _ _ _
    c.pair_at.ensures (sym c.if-is_some.ensures)
