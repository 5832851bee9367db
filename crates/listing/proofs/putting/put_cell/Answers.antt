-- `listing::putting::put_cell` meets its contract: a constant by its name, a variable by the name of its place. Assumes nothing.
use Rattle.listing.proofs.LineLaws.{name-count, name-wrote, place-count, place-wrote}
use Rattle.listing.proofs.putting.put_cell.Goals as goal

pub returns-then-x-lt-FIRST_VARIABLE : goal.returns-then-x-lt-FIRST_VARIABLE
returns-then-x-lt-FIRST_VARIABLE c =
    name-wrote _ _ _ _ _ c.if-x-lt-FIRST_VARIABLE.true c.wide.ensures.0 c.name-s.ensures c.copy.ensures

pub returns : goal.returns
returns c =
    place-wrote _ _ _ _ _ c.if-x-lt-FIRST_VARIABLE.false c.wide-2.ensures.0 c.put_placed.ensures

pub copy-requires : goal.copy-requires
copy-requires c =
    name-count _ _ _ _ _ c.if-x-lt-FIRST_VARIABLE.true c.wide.ensures.0 c.name-s.ensures c.requires

pub put_placed-requires : goal.put_placed-requires
put_placed-requires c =
    (place-count _ _ _ _ _ c.if-x-lt-FIRST_VARIABLE.false c.wide-2.ensures.0 c.requires, c.wide-2.ensures.1)
