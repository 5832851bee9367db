-- `listing::list_by` meets its contract: what fits is written at once; anything else is counted into no output and then written.
-- Assumes nothing.
use Rattle.std.proofs.Common.{arith}
use Rattle.listing.proofs.EndLaws.{listed-short, listed-written}
use Rattle.listing.proofs.list_by.Goals as goal

pub returns-then-fits : goal.returns-then-fits
returns-then-fits g c = λ bytes p h.
    let w = p.writes _ _ _ c.put-all.ensures in
    listed-written w (omega (arith, h c.if-fits.true, w.counted)) w

pub returns-then-out-size : goal.returns-then-out-size
returns-then-out-size g c = λ bytes p h. listed-short (p.writes _ _ _ c.put-size.ensures) c.if-out-size.true

pub returns : goal.returns
returns g c = λ bytes p h.
    listed-written (p.writes _ _ _ c.put-size.ensures) c.if-out-size.false (p.writes _ _ _ c.put.ensures)
