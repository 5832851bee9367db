-- `listing::ends::put_end` meets its contract: the line of a failed state, or the lines of a live one. Assumes nothing.
use Rattle.std.proofs.Common.{ap, sym}
use Rattle.std.specs.Prelude.{is_some}
use Rattle.listing.proofs.WriteLaws.{wrote-is, count-is}
use Rattle.listing.proofs.EndLaws.{numbered-live, numbered-failed}
use Rattle.listing.proofs.ends.put_end.Goals as goal

pub put_live-requires : goal.put_live-requires
put_live-requires c =
    let lives = ap is_some c.in-Some.is in
    (count-is (sym (numbered-live _ _ _ _ _ lives)) c.requires.counted, c.requires.few lives)

pub returns-in-Some : goal.returns-in-Some
returns-in-Some c =
    wrote-is (numbered-live _ _ _ _ _ (ap is_some c.in-Some.is)) c.put_live.ensures

pub put_head-requires : goal.put_head-requires
put_head-requires c =
    count-is (sym (numbered-failed _ _ _ _ _ (ap is_some c.in-None.is))) c.requires.counted

pub returns-in-None : goal.returns-in-None
returns-in-None c =
    wrote-is (numbered-failed _ _ _ _ _ (ap is_some c.in-None.is)) c.put_head.ensures
