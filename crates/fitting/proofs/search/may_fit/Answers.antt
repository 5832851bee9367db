-- `may_fit` meets its contract: the tally's test, then what is known of the rule.
-- Assumes nothing.
use Rattle.std.proofs.Common.{◌∙◌}
use borrow.Author.Tests.{le-leb}
use Rattle.fitting.proofs.KnownLaws.{may-fit-short, may-fit-since, may-fit-loose}
use Rattle.fitting.proofs.search.may_fit.Goals as goal

pub returns-then-v-ge-LOOSE : goal.returns-then-v-ge-LOOSE
returns-then-v-ge-LOOSE c =
    le-leb _ _ c.if-v-ge-LOOSE.true
    ∙ may-fit-loose _ _ c.heads-heads.ensures.same _ _ _ _ _ c.is_short.ensures c.if-not-is_short.true
    c.if-v-ge-LOOSE.true

pub returns-else-v-ge-LOOSE : goal.returns-else-v-ge-LOOSE
returns-else-v-ge-LOOSE c =
    may-fit-since _ _ c.heads-heads.ensures.same _ _ _ _ _ c.is_short.ensures c.if-not-is_short.true
    c.if-v-ge-LOOSE.false _ c.is_concerned.ensures

pub returns-else-not-is_short : goal.returns-else-not-is_short
returns-else-not-is_short c =
    rw c.if-not-is_short.false
    (may-fit-short _ _ c.heads-heads.ensures.same _ _ _ _ _ c.is_short.ensures c.if-not-is_short.false)
