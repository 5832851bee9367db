-- `listing::putting::put_placed` meets its contract: a goal variable's own name, or U and the number among the others.
-- Assumes nothing.
use mathlib.Core.Path.{refl}
use Rattle.listing.proofs.LineLaws.{own-count, own-wrote, other-count, other-next, other-wrote}
use Rattle.listing.proofs.putting.put_placed.Goals as goal

pub returns-then-x-n : goal.returns-then-x-n
returns-then-x-n c =
    own-wrote _ _ _ c.if-x-n.true c.put_variable.ensures

pub returns : goal.returns
returns c =
    let byte = c.put_byte-digits in
    other-wrote _ _ _ _ c.if-x-n.false byte.ensures c.put_decimal.ensures refl
    byte.auto.out

pub put_variable-requires : goal.put_variable-requires
put_variable-requires c =
    (own-count _ _ _ c.if-x-n.true c.requires.0, c.requires.1)

pub put_byte-digits-requires : goal.put_byte-digits-requires
put_byte-digits-requires c =
    other-count _ _ _ c.if-x-n.false c.requires.0

pub put_decimal-requires : goal.put_decimal-requires
put_decimal-requires c =
    other-next _ _ _ c.if-x-n.false c.requires.0 c.put_byte-digits.ensures
