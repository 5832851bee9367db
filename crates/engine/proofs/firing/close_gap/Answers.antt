-- `close_gap` meets its contract: it copies what `closed_gap` says.
-- Assumes nothing.
use Rattle.std.proofs.Common.{◌≡◌, ◌+◌, ◌-◌, ◌*◌, arith}
use Rattle.engine.specs.Cells.{closed_gap}
use Rattle.engine.proofs.firing.close_gap.Goals as goal

pub returns : goal.returns
unfolding closed_gap
returns c =
    let e : 5 * c.args.k - (5 * c.args.p + 5) ≡ 5 * c.args.k - 5 - 5 * c.args.p = omega arith in
    rw e at c.copy_within.ensures.after
