-- `listing::putting::put_head` meets its contract. Assumes nothing.
use Rattle.listing.proofs.WriteLaws.{wrote_then, count-first, count_next}
use Rattle.listing.proofs.putting.put_head.Goals as goal

pub copy-digits-requires : goal.copy-digits-requires
copy-digits-requires c = count-first _ c.requires

pub put_decimal-feed-requires : goal.put_decimal-feed-requires
put_decimal-feed-requires c =
    count-first _ (count_next c.requires c.copy-digits.ensures)

pub put_byte-requires : goal.put_byte-requires
put_byte-requires c =
    count_next (count_next c.requires c.copy-digits.ensures) c.put_decimal-feed.ensures

pub returns : goal.returns
returns c =
    wrote_then c.copy-digits.ensures
    (wrote_then c.put_decimal-feed.ensures c.put_byte.ensures c.put_decimal-feed.auto.out)
    c.copy-digits.auto.out
