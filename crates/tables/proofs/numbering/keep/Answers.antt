-- `tables::numbering::keep` meets its contract: each variable passed has its own cell. Assumes nothing.
use Rattle.std.proofs.Common.{◌≡◌, arith}
use Rattle.tables.proofs.NumberLaws.{keeping_start, keeping-next, keeping-end}
use Rattle.tables.proofs.numbering.keep.Goals as goal

pub loop-i-init : goal.loop-i-init
loop-i-init c = search keeping_start

pub loop-i-preserved : goal.loop-i-preserved
loop-i-preserved c = keeping-next _ _ _ c.loop-i.invariant (omega arith)

pub returns : goal.returns
returns c =
    let all : c.args.n ≡ c.loop-i.i = omega arith in
    rw all (keeping-end _ _ _ c.loop-i.invariant)
