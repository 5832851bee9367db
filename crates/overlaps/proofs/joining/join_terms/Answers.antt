-- `join_terms` meets its contract: the columns from c on, in the cells so far, give the answer for all of them.
-- Assumes nothing.
use Rattle.std.proofs.Common.{rules}
use Rattle.overlaps.proofs.TermLaws.{joining-short, joining-long, joining-clash, joining-next, joining-end}
use Rattle.overlaps.proofs.joining.join_terms.Goals as goal

pub returns-then-x-eq0 : goal.returns-then-x-eq0
returns-then-x-eq0 c = search joining-short

pub returns-then-y-eq0 : goal.returns-then-y-eq0
returns-then-y-eq0 c = search joining-long

pub returns-then-not-unify : goal.returns-then-not-unify
returns-then-not-unify c = search joining-clash

pub loop-c-preserved : goal.loop-c-preserved
loop-c-preserved c = (
  joining-next _ _ _ _ _ c.loop-c.invariant.0 c.loop-c-test.true c.if-x-eq0.false c.if-y-eq0.false
      _ _ _ _ _ _ c.unify.ensures c.if-not-unify.false,
  search rules,
  search rules,
)

pub returns : goal.returns
returns c = search joining-end
