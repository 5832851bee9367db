-- `tables::numbering::used` meets its contract: no cell passed is 0. Assumes nothing.
use Rattle.std.proofs.Common.{add-one, arith}
use Rattle.tables.proofs.NumberLaws.{used-here, used_step, used-end}
use Rattle.tables.proofs.numbering.used.Goals as goal

pub returns-then-x-eq0 : goal.returns-then-x-eq0
returns-then-x-eq0 c =
    (omega (arith, used-here c.args.cells.now c.loop-i.i c.loop-i-test.true c.if-x-eq0.true), omega arith)

pub loop-i-preserved : goal.loop-i-preserved
loop-i-preserved c =
    rw add-one (omega (arith, used_step c.args.cells.now c.loop-i.i c.loop-i-test.true c.if-x-eq0.false))

pub returns : goal.returns
returns c = (omega (arith, used-end c.args.cells.now c.loop-i.i c.loop-i-test.false), omega arith)
