-- `programs::rules::check_rule` meets its contract: number 8, number 9, or none.
-- Assumes nothing.
use Rattle.programs.proofs.RuleLaws.{fault-eight, fault-nine, fault-none}
use Rattle.programs.proofs.rules.check_rule.Goals as goal

pub returns-then-h-k : goal.returns-then-h-k
returns-then-h-k c =
    fault-eight _ _ _ _ _ c.wide-k.ensures.0 c.wide-h.ensures.0 c.wide-b.ensures.0 c.requires.0
    c.requires.1 c.if-h-k.true

pub returns-then-heads-body : goal.returns-then-heads-body
returns-then-heads-body c =
    fault-nine _ _ _ _ _ c.wide-k.ensures.0 c.wide-h.ensures.0 c.wide-b.ensures.0 c.requires.0
    c.requires.1 _ _ c.weight_of-heads.ensures c.weight_of-body.ensures c.if-h-k.false
    c.if-heads-body.true

pub returns : goal.returns
returns c =
    fault-none _ _ _ _ _ c.wide-k.ensures.0 c.wide-h.ensures.0 c.wide-b.ensures.0 c.requires.0
    c.requires.1 _ _ c.weight_of-heads.ensures c.weight_of-body.ensures c.if-h-k.false
    c.if-heads-body.false
