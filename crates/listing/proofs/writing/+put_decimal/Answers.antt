-- `listing::writing::put_decimal` meets its contract: one digit, two or three, or the digits of a tenth, which is less, and one
-- more. Assumes nothing.
use Rattle.std.proofs.Common.{arith, ◌∙◌}
use Rattle.listing.proofs.LineLaws.{digit-count, tenth-count, last-count, digit-wrote, digits-wrote}
use Rattle.listing.proofs.writing.+put_decimal.Goals as goal

pub put_byte-requires : goal.put_byte-requires
put_byte-requires t c = digit-count _ c.requires c.if-n-lt10.true

pub returns-then-n-lt10 : goal.returns-then-n-lt10
returns-then-n-lt10 t c = digit-wrote _ c.if-n-lt10.true c.put_byte.ensures

-- two digits
pub put_byte-end-requires : goal.put_byte-end-requires
put_byte-end-requires t c = digit-count _ (tenth-count _ c.requires c.if-n-lt10.false) c.if-tens-lt10.true

pub put_byte-requires-then-tens-lt10 : goal.put_byte-requires-then-tens-lt10
put_byte-requires-then-tens-lt10 t c =
    last-count _ c.requires c.if-n-lt10.false (digit-wrote _ c.if-tens-lt10.true c.put_byte-end.ensures)

pub returns-then-tens-lt10 : goal.returns-then-tens-lt10
returns-then-tens-lt10 t c =
    digits-wrote _ c.if-n-lt10.false (digit-wrote _ c.if-tens-lt10.true c.put_byte-end.ensures) c.put_byte-then-tens-lt10.ensures
    c.put_byte-end.auto.out

-- three digits
pub put_byte-second-requires : goal.put_byte-second-requires
put_byte-second-requires t c =
    digit-count _ (tenth-count _ (tenth-count _ c.requires c.if-n-lt10.false) c.if-tens-lt10.false)
    (omega (arith, c.if-tens-lt100.true))

pub put_byte-third-requires : goal.put_byte-third-requires
put_byte-third-requires t c =
    let first = digit-wrote _ (omega (arith, c.if-tens-lt100.true)) c.put_byte-second.ensures in
    last-count _ (tenth-count _ c.requires c.if-n-lt10.false) c.if-tens-lt10.false first

pub put_byte-requires-then-tens-lt100 : goal.put_byte-requires-then-tens-lt100
put_byte-requires-then-tens-lt100 t c =
    let first = digit-wrote _ (omega (arith, c.if-tens-lt100.true)) c.put_byte-second.ensures in
    let two = digits-wrote _ c.if-tens-lt10.false first c.put_byte-third.ensures c.put_byte-second.auto.out in
    last-count _ c.requires c.if-n-lt10.false two

pub returns-then-tens-lt100 : goal.returns-then-tens-lt100
returns-then-tens-lt100 t c =
    let first = digit-wrote _ (omega (arith, c.if-tens-lt100.true)) c.put_byte-second.ensures in
    let two = digits-wrote _ c.if-tens-lt10.false first c.put_byte-third.ensures c.put_byte-second.auto.out in
    digits-wrote _ c.if-n-lt10.false two c.put_byte-then-tens-lt100.ensures (c.put_byte-third.auto.out ∙ c.put_byte-second.auto.out)

-- more
pub put_decimal-end-requires : goal.put_decimal-end-requires
put_decimal-end-requires t c = (omega (arith, c.decreases), tenth-count _ c.requires c.if-n-lt10.false)

pub put_byte-requires-2 : goal.put_byte-requires-2
put_byte-requires-2 t c = last-count _ c.requires c.if-n-lt10.false c.put_decimal-end.ensures

pub returns : goal.returns
returns t c =
    digits-wrote _ c.if-n-lt10.false c.put_decimal-end.ensures c.put_byte-2.ensures c.put_decimal-end.auto.out
