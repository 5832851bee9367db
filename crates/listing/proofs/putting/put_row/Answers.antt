-- `listing::putting::put_row` meets its contract: its letter, a comma, its name and its terms. Assumes nothing.
use native.Mathlib.Omega.{arith}
use Rattle.listing.proofs.LineLaws.{line-count, line-comma, line-name, line-fields, line_wrote}
use Rattle.listing.proofs.putting.put_row.Goals as goal

pub put_byte-comma-requires : goal.put_byte-comma-requires
put_byte-comma-requires c = search line-count

pub put_byte-start-requires : goal.put_byte-start-requires
put_byte-start-requires c = search line-comma

pub copy-end-requires : goal.copy-end-requires
copy-end-requires c = search line-name

pub overflow_add-e : goal.overflow_add-e
overflow_add-e c = omega (arith, c.used-n.ensures.1)

pub put_fields-requires : goal.put_fields-requires
put_fields-requires c =
    line-fields _ _ _ _ _ _ _ c.requires.1 c.wide.ensures.0 c.name-s.ensures c.put_byte-comma.ensures
    c.put_byte-start.ensures c.copy-end.ensures c.used-n.ensures.0

pub returns : goal.returns
returns c =
    line_wrote _ _ _ _ _ _ _ c.wide.ensures.0 c.name-s.ensures c.put_byte-comma.ensures
    c.put_byte-start.ensures c.copy-end.ensures c.used-n.ensures.0 c.put_fields.ensures
    c.put_byte-comma.auto.out c.put_byte-start.auto.out c.copy-end.auto.out
