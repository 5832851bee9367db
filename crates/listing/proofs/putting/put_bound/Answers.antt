-- `listing::putting::put_bound` meets its contract: the letter A, its name, what it became and the line feed. Assumes nothing.
use Rattle.listing.proofs.LineLaws.{bound-front, bound-name, bound-comma, bound-cell, bound-feed, bound-wrote}
use Rattle.listing.proofs.putting.put_bound.Goals as goal

pub copy-start-requires : goal.copy-start-requires
copy-start-requires c =
    bound-front _ _ _ _ _ c.requires.0

pub put_variable-comma-requires : goal.put_variable-comma-requires
put_variable-comma-requires c =
    (bound-name _ _ _ _ _ c.requires.0 c.copy-start.ensures, c.requires.1)

pub put_byte-field-requires : goal.put_byte-field-requires
put_byte-field-requires c =
    bound-comma _ _ _ _ _ c.requires.0 c.copy-start.ensures c.put_variable-comma.ensures

pub put_cell-feed-requires : goal.put_cell-feed-requires
put_cell-feed-requires c =
    bound-cell _ _ _ _ _ c.requires.0 c.copy-start.ensures c.put_variable-comma.ensures
    c.put_byte-field.ensures

pub put_byte-requires : goal.put_byte-requires
put_byte-requires c =
    bound-feed _ _ _ _ _ c.requires.0 c.copy-start.ensures c.put_variable-comma.ensures
    c.put_byte-field.ensures c.put_cell-feed.ensures

pub returns : goal.returns
returns c =
    let front = c.copy-start in
    let name = c.put_variable-comma in
    let comma = c.put_byte-field in
    let cell = c.put_cell-feed in
    bound-wrote _ _ _ _ _ front.ensures name.ensures comma.ensures cell.ensures c.put_byte.ensures
    front.auto.out name.auto.out comma.auto.out cell.auto.out
