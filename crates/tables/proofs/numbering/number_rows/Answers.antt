-- `tables::numbering::number_rows` meets its contract: the constraints passed are rewritten, and those left lead to the whole
-- order. Assumes nothing.
use native.Mathlib.Omega.{arith}
use Rattle.tables.proofs.RowLaws.{rows_start, rows-asked, lent-size, rows_next, rows_end}
use Rattle.tables.proofs.numbering.number_rows.Goals as goal

pub loop-i-init : goal.loop-i-init
loop-i-init c = search rows_start

pub number_row-seen-requires : goal.number_row-seen-requires
number_row-seen-requires c =
    let loop' = c.loop-i in
    let w = loop'.invariant in
    let room = c.loop-i-test.true in (
      rows-asked _ _ _ _ _ _ _ w room,
      omega (arith, w.few, w.cells-size, room, lent-size loop'.cells loop'.i room),
    )

pub loop-i-smaller : goal.loop-i-smaller
loop-i-smaller c =
    omega (arith, c.loop-i-test.true, c.loop-i.invariant.cells-size)

pub loop-i-preserved : goal.loop-i-preserved
loop-i-preserved c =
    rows_next _ _ _ _ _ _ _ c.loop-i.invariant c.loop-i-test.true _ _ _ c.number_row-seen.ensures
    c.number_row-seen.auto.row c.number_row-seen.auto.table

pub returns : goal.returns
returns c = rows_end _ _ _ _ _ _ _ c.loop-i.invariant c.loop-i-test.false
