-- `text::fields::split` meets its contract: the fields so far, one field on. Assumes nothing.
use Rattle.std.proofs.Common.{sym, ◌∙◌}
use Rattle.text.proofs.Bools.{never}
use Rattle.text.proofs.Splitting.{walk_start, walk-comma, walk-feed, walk-fault}
use Rattle.text.proofs.fields.split.Goals as goal

pub loop-found-init : goal.loop-found-init
loop-found-init c = walk_start _ _ _ c.requires.1 c.reach-limit.ensures

pub returns-then-is_other : goal.returns-then-is_other
returns-then-is_other c =
    walk-fault _ _ _ _ _ _ _ _ c.loop-found.invariant c.next_field-found.ensures c.requires.2
    c.reach-limit.ensures (c.is_other.ensures.0 c.if-is_other.true)

pub returns-then-is_feed : goal.returns-then-is_feed
returns-then-is_feed c =
    walk-feed _ _ _ _ _ _ _ _ c.loop-found.invariant c.next_field-found.ensures c.requires.2
    c.reach-limit.ensures _ _ c.note.ensures.0 c.note.ensures.1 (c.is_feed.ensures.0 c.if-is_feed.true)

pub loop-found-preserved : goal.loop-found-preserved
loop-found-preserved c =
    walk-comma _ _ _ _ _ _ _ _ c.loop-found.invariant c.next_field-found.ensures c.requires.2
    c.reach-limit.ensures _ _ c.note.ensures.0 c.note.ensures.1
    (λ e. never (sym (c.is_other.ensures.1 e) ∙ c.if-is_other.false))
    (λ e. never (sym (c.is_feed.ensures.1 e) ∙ c.if-is_feed.false))
