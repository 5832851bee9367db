-- `listing::putting::put_fields` meets its contract: the fields before an index are written. Assumes nothing.
use Rattle.listing.proofs.WriteLaws.{writing_start}
use Rattle.listing.proofs.LineLaws.{comma-count, field-count, fields-next, feed-count, fields-wrote}
use Rattle.listing.proofs.putting.put_fields.Goals as goal

pub loop-cell-init : goal.loop-cell-init
loop-cell-init c = writing_start _ _ _

pub put_byte-field-requires : goal.put_byte-field-requires
put_byte-field-requires c = search comma-count

pub put_cell-end-requires : goal.put_cell-end-requires
put_cell-end-requires c =
    field-count _ _ _ c.loop-cell.invariant c.loop-cell-test.true
    c.requires c.put_byte-field.ensures

pub loop-cell-preserved : goal.loop-cell-preserved
loop-cell-preserved c = search fields-next

pub put_byte-requires : goal.put_byte-requires
put_byte-requires c =
    feed-count _ _ _ c.loop-cell.invariant c.loop-cell-test.false c.requires

pub returns : goal.returns
returns c =
    fields-wrote _ _ _ c.loop-cell.invariant c.loop-cell-test.false c.put_byte.ensures
