-- `match_at` meets its contract: the heads from number h on, under the bindings so far, give the answer for all of them.
-- Assumes nothing.
use Rattle.engine.proofs.StatedLaws.{matching-start, matching-end, matching-away, matching-rows}
use Rattle.engine.proofs.StatedLaws.{matching-misfit, matching-fits}
use Rattle.engine.proofs.stated.match_at.Goals as goal

pub loop-h-init : goal.loop-h-init
loop-h-init c =
    matching-start _ _ _ _ _ _ _ c.requires.0 c.requires.1 c.requires.2 c.requires.3 c.wide-n.ensures.0
    c.heads-heads.ensures.size c.heads-heads.ensures.same

pub returns-then-m-p : goal.returns-then-m-p
returns-then-m-p c = search matching-away

pub fit_free-requires : goal.fit_free-requires
fit_free-requires c = search matching-rows

pub returns-then-not-fit_free : goal.returns-then-not-fit_free
returns-then-not-fit_free c =
    matching-misfit _ _ _ _ _ _ _ _ c.loop-h.invariant c.loop-h-test.true c.if-m-p.false _ _
    c.fit_free.ensures c.if-not-fit_free.true

pub loop-h-preserved : goal.loop-h-preserved
loop-h-preserved c =
    matching-fits _ _ _ _ _ _ _ _ c.loop-h.invariant c.loop-h-test.true c.if-m-p.false _ _
    c.fit_free.ensures c.if-not-fit_free.false

pub returns : goal.returns
returns c = search matching-end
