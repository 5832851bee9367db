-- `listing::putting::put_variable` meets its contract: its letter, or V and its number. Assumes nothing.
use Rattle.listing.proofs.LineLaws.{lettered-count, lettered-wrote}
use Rattle.listing.proofs.LineLaws.{unlettered-count, unlettered-next, unlettered-wrote}
use Rattle.listing.proofs.putting.put_variable.Goals as goal

pub returns-then-x-letters : goal.returns-then-x-letters
returns-then-x-letters c =
    lettered-wrote _ _ c.if-x-letters.true c.put_byte.ensures

pub returns : goal.returns
returns c =
    let byte = c.put_byte-digits in
    unlettered-wrote _ _ c.if-x-letters.false byte.ensures c.put_decimal.ensures byte.auto.out

pub put_byte-requires : goal.put_byte-requires
put_byte-requires c =
    lettered-count _ _ c.if-x-letters.true c.requires.0

pub put_byte-digits-requires : goal.put_byte-digits-requires
put_byte-digits-requires c =
    unlettered-count _ _ c.if-x-letters.false c.requires.0

pub put_decimal-requires : goal.put_decimal-requires
put_decimal-requires c =
    unlettered-next _ _ c.if-x-letters.false c.requires.0 c.put_byte-digits.ensures
