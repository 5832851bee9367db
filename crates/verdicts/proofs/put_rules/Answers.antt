-- `verdicts::put_rules` meets its contract: the word, the two names and the line feed. Assumes nothing.
use mathlib.Core.Path.{sym}
use Rattle.listing.proofs.WriteLaws.{wrote_then, wrote-is, count-is, count-first, count_next}
use Rattle.verdicts.proofs.CheckLaws.{rules-is}
use Rattle.verdicts.proofs.put_rules.Goals as goal

pub copy-start-requires : goal.copy-start-requires
copy-start-requires c =
    let all = count-is (rules-is _ _ _ c.name-one.ensures c.name-two.ensures) c.requires.0 in
    count-first _ all

pub copy-comma-requires : goal.copy-comma-requires
copy-comma-requires c =
    let all = count-is (rules-is _ _ _ c.name-one.ensures c.name-two.ensures) c.requires.0 in
    count-first _ (count_next all c.copy-start.ensures)

pub put_byte-next-requires : goal.put_byte-next-requires
put_byte-next-requires c =
    let all = count-is (rules-is _ _ _ c.name-one.ensures c.name-two.ensures) c.requires.0 in
    count-first _ (count_next (count_next all c.copy-start.ensures) c.copy-comma.ensures)

pub copy-feed-requires : goal.copy-feed-requires
copy-feed-requires c =
    let all = count-is (rules-is _ _ _ c.name-one.ensures c.name-two.ensures) c.requires.0 in
    let three = count_next (count_next all c.copy-start.ensures) c.copy-comma.ensures in
    count-first _ (count_next three c.put_byte-next.ensures)

pub put_byte-requires : goal.put_byte-requires
put_byte-requires c =
    let all = count-is (rules-is _ _ _ c.name-one.ensures c.name-two.ensures) c.requires.0 in
    let three = count_next (count_next all c.copy-start.ensures) c.copy-comma.ensures in
    count_next (count_next three c.put_byte-next.ensures) c.copy-feed.ensures

pub returns : goal.returns
returns c =
    let word = c.copy-start in
    let one = c.copy-comma in
    let comma = c.put_byte-next in
    let two = c.copy-feed in
    wrote-is (sym (rules-is _ _ _ c.name-one.ensures c.name-two.ensures))
    (wrote_then word.ensures
    (wrote_then one.ensures
    (wrote_then comma.ensures (wrote_then two.ensures c.put_byte.ensures two.auto.out) comma.auto.out)
    one.auto.out)
    word.auto.out)
