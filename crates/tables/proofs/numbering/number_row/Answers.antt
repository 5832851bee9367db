-- `tables::numbering::number_row` meets its contract: the terms passed are rewritten, and those left lead to the whole order.
-- Assumes nothing.
use native.Mathlib.Omega.{arith}
use Rattle.tables.proofs.RowLaws.{passing-start, passing-zero, passing-inside, passing-next, passing-end}
use Rattle.tables.proofs.numbering.number_row.Goals as goal

pub loop-i-init : goal.loop-i-init
loop-i-init c = search passing-start

pub returns-then-x-eq0 : goal.returns-then-x-eq0
returns-then-x-eq0 c =
    passing-zero _ _ _ _ _ _ _ c.loop-i.invariant (omega arith) c.if-x-eq0.true

pub number_term-seen-requires : goal.number_term-seen-requires
number_term-seen-requires c =
    let w = c.loop-i.invariant in (
      passing-inside _ _ _ _ _ _ _ w (omega arith) c.if-x-eq0.false,
      omega (arith, w.few, w.row-size),
    )

pub loop-i-preserved : goal.loop-i-preserved
loop-i-preserved c =
    passing-next _ _ _ _ _ _ _ c.loop-i.invariant (omega arith) c.if-x-eq0.false _ _ _
    c.number_term-seen.ensures c.renumbered.ensures c.number_term-seen.auto.table

pub returns : goal.returns
returns c = passing-end _ _ _ _ _ _ _ c.loop-i.invariant (omega arith)
