-- `fire_from` meets its contract: the match, and the firing under it, or the goal.
-- Assumes nothing.
use Rattle.engine.proofs.StatedLaws.{stated-rests, stated-completes, stated-moves}
use Rattle.engine.proofs.stated.fire_from.Goals as goal

pub returns-then-not-match_at : goal.returns-then-not-match_at
returns-then-not-match_at c = search (stated-rests)

pub complete-requires : goal.complete-requires
complete-requires c =
    stated-completes _ _ _ _ _ _ c.requires _ _ c.match_at.ensures c.if-not-match_at.false _ _
    c.wide-heads.ensures.0 c.wide-kept.ensures.0 _ _ c.copy_free-left.auto.cells c.copy_free-left.ensures

pub returns-in-None : goal.returns-in-None
returns-in-None c =
    stated-moves _ _ _ _ _ _ c.requires _ _ c.match_at.ensures c.if-not-match_at.false _ _
    c.wide-heads.ensures.0 c.wide-kept.ensures.0 _ _ c.copy_free-left.auto.cells c.copy_free-left.ensures
    _ _ _ _ _ c.in-None.ensures

pub returns-in-Some : goal.returns-in-Some
returns-in-Some c =
    stated-moves _ _ _ _ _ _ c.requires _ _ c.match_at.ensures c.if-not-match_at.false _ _
    c.wide-heads.ensures.0 c.wide-kept.ensures.0 _ _ c.copy_free-left.auto.cells c.copy_free-left.ensures
    _ _ _ _ _ c.in-Some.ensures
