-- `verdicts::put_pair` meets its contract: nothing, or its letter, the two numbers and the line feed. Assumes nothing.
use mathlib.Core.Path.{sym}
use Rattle.listing.proofs.WriteLaws.{wrote_then, wrote-is, count-is, count-first, count_next}
use Rattle.verdicts.proofs.CheckLaws.{pair-none, pair_is}
use Rattle.verdicts.proofs.put_pair.Goals as goal

pub returns-then-partner-eq0 : goal.returns-then-partner-eq0
returns-then-partner-eq0 c = pair-none _ _ _ c.if-partner-eq0.true

pub copy-start-requires : goal.copy-start-requires
copy-start-requires c =
    let all = count-is (pair_is _ _ c.if-partner-eq0.false) c.requires in
    count-first _ all

pub put_decimal-comma-requires : goal.put_decimal-comma-requires
put_decimal-comma-requires c =
    let all = count-is (pair_is _ _ c.if-partner-eq0.false) c.requires in
    count-first _ (count_next all c.copy-start.ensures)

pub put_byte-next-requires : goal.put_byte-next-requires
put_byte-next-requires c =
    let all = count-is (pair_is _ _ c.if-partner-eq0.false) c.requires in
    count-first _ (count_next (count_next all c.copy-start.ensures) c.put_decimal-comma.ensures)

pub put_decimal-feed-requires : goal.put_decimal-feed-requires
put_decimal-feed-requires c =
    let all = count-is (pair_is _ _ c.if-partner-eq0.false) c.requires in
    let three = count_next (count_next all c.copy-start.ensures) c.put_decimal-comma.ensures in
    count-first _ (count_next three c.put_byte-next.ensures)

pub put_byte-requires : goal.put_byte-requires
put_byte-requires c =
    let all = count-is (pair_is _ _ c.if-partner-eq0.false) c.requires in
    let three = count_next (count_next all c.copy-start.ensures) c.put_decimal-comma.ensures in
    count_next (count_next three c.put_byte-next.ensures) c.put_decimal-feed.ensures

pub returns : goal.returns
returns c =
    let word = c.copy-start in
    let head = c.put_decimal-comma in
    let comma = c.put_byte-next in
    let last = c.put_decimal-feed in
    wrote-is (sym (pair_is _ _ c.if-partner-eq0.false))
    (wrote_then word.ensures
    (wrote_then head.ensures
    (wrote_then comma.ensures (wrote_then last.ensures c.put_byte.ensures last.auto.out) comma.auto.out)
    head.auto.out)
    word.auto.out)
