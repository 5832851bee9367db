-- `find_rule` meets its contract: the search starts with no position and nothing settled.
-- Assumes nothing.
use Rattle.fitting.proofs.ChooseLaws.{rule-seeking, rule-barren, rule-located}
use Rattle.fitting.proofs.search.find_rule.Goals as goal

pub find-requires : goal.find-requires
find-requires c =
    let n = c.wide-n.ensures.0 in
    let size = c.heads.ensures.size in
    let same = c.heads.ensures.same in (
      rule-seeking _ _ _ _ _ c.requires.0 c.requires.1 n size same _ c.requires.4,
      rule-barren _ _ _ _ _ c.requires.0 c.requires.1 n size same _ c.requires.4 _ c.requires.2,
      c.requires.3,
    )

pub returns : goal.returns
returns c =
    rule-located _ _ _ _ _ c.requires.0 c.requires.1 c.wide-n.ensures.0 c.heads.ensures.size c.heads.ensures.same _ c.requires.4
    _ _ _ c.find.ensures.0
