-- `listing::ends::put_live` meets its contract: the first line, the A lines and the S lines. Assumes nothing.
use Rattle.listing.proofs.EndLaws.{live-head, live-bounds, live-rows, live-wrote}
use Rattle.listing.proofs.ends.put_live.Goals as goal

pub put_head-head-requires : goal.put_head-head-requires
put_head-head-requires c =
    live-head _ _ _ _ _ c.requires.0

pub put_bounds-at-requires : goal.put_bounds-at-requires
put_bounds-at-requires c =
    (live-bounds _ _ _ _ _ c.requires.0 c.put_head-head.ensures, c.requires.1)

pub put_rows-requires : goal.put_rows-requires
put_rows-requires c =
    live-rows _ _ _ _ _ c.requires.0 c.put_head-head.ensures c.put_bounds-at.ensures

pub returns : goal.returns
returns c =
    live-wrote _ _ _ _ _ c.put_head-head.ensures c.put_bounds-at.ensures c.put_rows.ensures
    c.put_head-head.auto.out c.put_bounds-at.auto.out
