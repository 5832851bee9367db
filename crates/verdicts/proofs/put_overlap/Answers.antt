-- `verdicts::put_overlap` meets its contract: the ends behind the lines in front of them. Assumes nothing.
use mathlib.Core.Path.{sym}
use Rattle.listing.proofs.WriteLaws.{wrote_then, wrote-is, count-is, count-first, count_next}
use Rattle.verdicts.proofs.CheckLaws.{shown-is}
use Rattle.verdicts.proofs.put_overlap.Goals as goal

pub returns : goal.returns
returns c =
    let front = c.put_front-at in
    wrote-is (sym (shown-is _ _ _ _ _ _ _)) (wrote_then front.ensures c.put_ends.ensures front.auto.out)

pub put_front-at-requires : goal.put_front-at-requires
put_front-at-requires c =
    let all = count-is (shown-is _ _ _ _ _ _ _) c.requires.counted in
    (count-first _ all, c.requires.shaped)

pub put_ends-requires : goal.put_ends-requires
put_ends-requires c =
    let all = count-is (shown-is _ _ _ _ _ _ _) c.requires.counted in
    record {
      counted = count_next all c.put_front-at.ensures;
      within = c.requires.within;
      first-end = c.requires.first-end;
      second-end = c.requires.second-end;
    }
